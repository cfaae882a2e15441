use Rattle.std.proofs.Common.{◌≡◌, false}
use Rattle.stages.proofs.lookaheads.Lookaheads.grow_firsts.Given as goal

-- as long as nothing was new, the sets are as they were
abbrev pub invariant-loop-row : goal.invariant-loop-row
invariant-loop-row l = l.grows ≡ false → l.self.firsts.items ≡ l.initial.self.firsts.items
