use Rattle.std.proofs.Common.{◌≡◌, length}
use Rattle.drills.proofs.field.rests.Given as goal

abbrev pub invariant-loop-update : goal.invariant-loop-update
invariant-loop-update l = record {
  robots : length l.arena.robots ≡ 4;
  updates : l.arena.updates ≡ l._update;
}
