use Rattle.std.proofs.Common.{◌≡◌, length}
use Rattle.duel.proofs.duel.duel.Given as goal

-- both robots are there, and the updates so far are done
abbrev pub invariant-loop-update : goal.invariant-loop-update
invariant-loop-update g l = (length l.arena.robots ≡ 2) × (l.arena.updates ≡ l.update)

abbrev pub invariant-loop-robot : goal.invariant-loop-robot
invariant-loop-robot g l = length l.arena.robots ≡ 2
