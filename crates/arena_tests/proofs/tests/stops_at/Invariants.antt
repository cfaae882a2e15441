use Rattle.std.proofs.Common.{◌≡◌, ◌+◌, length}
use Rattle.arena_tests.proofs.tests.stops_at.Given as goal

abbrev pub invariant-loop-x : goal.invariant-loop-x
invariant-loop-x g l = record {
  updates : l.arena.updates ≡ l.initial.arena.updates + l.x-index;
  manned : length l.arena.robots ≡ length l.initial.arena.robots;
}
