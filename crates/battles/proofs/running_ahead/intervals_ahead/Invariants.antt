use Rattle.std.proofs.Common.{◌≡◌, ◌⊎◌, ◌≤◌, ◌+◌, ◌*◌}
use Rattle.battles.specs.Intervals.{AreAhead}
use Rattle.battles.proofs.Passed.{OneIsBehind}
use Rattle.battles.proofs.running_ahead.intervals_ahead.Given as goal

abbrev pub invariant-loop-robot : goal.invariant-loop-robot
invariant-loop-robot l = record {
  most : l.intervals ≤ l.most;
  ahead : AreAhead l.robot (15 * l.intervals) l.arena l.runners;
  all : (l.intervals ≡ l.most) ⊎ OneIsBehind l.robot (15 * (l.intervals + 1)) l.arena l.runners;
}
