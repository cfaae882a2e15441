use Rattle.std.proofs.Common.{◌≡◌, [], replicate}
use Rattle.arena.proofs.slots.empty_slots.Given as goal

-- n robots have none
abbrev pub invariant-loop-robot : goal.invariant-loop-robot
invariant-loop-robot l = l.slots.items ≡ replicate l._robot []
