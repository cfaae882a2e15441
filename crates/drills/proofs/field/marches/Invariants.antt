use Rattle.std.proofs.Common.{◌≡◌, length}
use Rattle.drills.proofs.field.marches.Given as goal

-- among the orders of an update
abbrev pub invariant-loop-robot : goal.invariant-loop-robot
invariant-loop-robot l = record {
  robots : length l.arena.robots ≡ 4;
  updates : l.arena.updates ≡ l.update;
}

abbrev pub invariant-loop-update : goal.invariant-loop-update
invariant-loop-update l = record {
  robots : length l.arena.robots ≡ 4;
  updates : l.arena.updates ≡ l.update;
}
