use Rattle.std.proofs.Common.{◌≡◌, length}
use Rattle.arena_tests.proofs.tests.hurts_itself_and_outlives_its_owner.Given as goal

abbrev pub invariant-loop-round : goal.invariant-loop-round
invariant-loop-round g l = record { updates : l.arena.updates ≡ l._round; manned : length l.arena.robots ≡ 2 }
