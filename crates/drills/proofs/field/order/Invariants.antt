use Rattle.std.proofs.Common.{◌≡◌, length}
use Rattle.drills.proofs.field.order.Given as goal

abbrev pub invariant-loop : goal.invariant-loop
invariant-loop l = record {
  robots : length l.arena.robots ≡ 4;
  updates : l.arena.updates ≡ l.fn.arena.updates;
}
