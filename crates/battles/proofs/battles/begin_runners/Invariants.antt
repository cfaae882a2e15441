use Rattle.std.proofs.Common.{[], take, replicate}
use Rattle.battles.specs.Carrying.{EachFits, EachIsAheadOf}
use Rattle.battles.proofs.battles.begin_runners.Given as goal

abbrev pub invariant-loop-robot : goal.invariant-loop-robot
invariant-loop-robot l = record {
  fits : EachFits (take l.robot l.runners) (take l.robot l.executables);
  begins : EachIsAheadOf (take l.robot l.runners) (take l.robot l.executables) (replicate l.robot []);
}
