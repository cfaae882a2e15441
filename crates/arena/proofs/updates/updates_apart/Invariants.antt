use Rattle.std.proofs.Common.{ℕ, ◌/◌, ◌<◌, ◌≤◌, length}
use Rattle.arena.proofs.Calm.{gap_at}
use Rattle.arena.proofs.updates.updates_apart.Given as goal

-- those so far have such a gap to all after them
abbrev pub invariant-loop-i : goal.invariant-loop-i
invariant-loop-i l = (a b : ℕ) → a < l.i → a < b → b < length l.robots → l.least / 100000 ≤ gap_at l.robots a b
