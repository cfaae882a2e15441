use Rattle.std.proofs.Common.{◌≡◌, length}
use Rattle.arena_tests.proofs.tests.fires_two_at_once.Given as goal

abbrev pub invariant-loop-want : goal.invariant-loop-want
invariant-loop-want g l = record { updates : l.arena.updates ≡ 0; manned : length l.arena.robots ≡ 2 }
