use Rattle.std.proofs.Common.{◌≡◌, length}
use Rattle.arena_tests.proofs.tests.plain.play.Given as goal

abbrev pub invariant-loop-update : goal.invariant-loop-update
invariant-loop-update g l =
    record { updates : l.arena.updates ≡ l._update; manned : length l.arena.robots ≡ length l.places }

abbrev pub invariant-loop-robot : goal.invariant-loop-robot
invariant-loop-robot g l =
    record { updates : l.arena.updates ≡ l._update; manned : length l.arena.robots ≡ length l.places }

abbrev pub invariant-loop-robot-2 : goal.invariant-loop-robot-2
invariant-loop-robot-2 g l = length l.arena.robots ≡ length l.places
