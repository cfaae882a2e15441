use Rattle.std.proofs.Common.{◌≡◌, ◌+◌, length}
use Rattle.arena_tests.proofs.tests.pass.Given as goal

abbrev pub invariant-loop-update : goal.invariant-loop-update
invariant-loop-update l = record {
  updates : l.arena.updates ≡ l.initial.arena.updates + l._update;
  manned : length l.arena.robots ≡ length l.initial.arena.robots;
}
