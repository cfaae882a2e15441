use Rattle.std.proofs.Common.{◌≡◌, [], take, replicate}
use Rattle.battles.specs.Carrying.{EachIsAheadOf}
use Rattle.watching.specs.Played.{codes_of, exes_of, runners_of}
use Rattle.watching.proofs.games.begin.Given as goal

-- the pilots so far are at the start of their programs
abbrev pub invariant-loop-robot : goal.invariant-loop-robot
invariant-loop-robot l = record {
  codes : codes_of l.pilots ≡ codes_of l.initial.pilots;
  begun : EachIsAheadOf (runners_of (take l.robot l.pilots)) (take l.robot (exes_of (codes_of l.initial.pilots)))
      (replicate l.robot []);
}
