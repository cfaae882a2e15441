use Rattle.battles.specs.Intervals.{AreAhead}
use Rattle.battles.proofs.running_ahead.are_ahead.Given as goal

abbrev pub invariant-loop-robot : goal.invariant-loop-robot
invariant-loop-robot l = AreAhead l.robot l.cycles l.arena l.runners
