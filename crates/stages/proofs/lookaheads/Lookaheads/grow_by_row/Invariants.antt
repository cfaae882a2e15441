use Rattle.std.proofs.Common.{◌≡◌, false}
use Rattle.stages.proofs.lookaheads.Lookaheads.grow_by_row.Given as goal

-- as long as nothing was new, the sets are as they were
abbrev pub invariant-loop-index : goal.invariant-loop-index
invariant-loop-index l = l.grows ≡ false → l.self.follows.items ≡ l.initial.self.follows.items
