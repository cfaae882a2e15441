use Rattle.std.proofs.Common.{◌<◌}
use Rattle.arena.proofs.Newton.{IsNear}
use Rattle.arena.proofs.scans.whole_root.Given as goal

-- the guess isn't below the root
abbrev pub invariant-loop-guess : goal.invariant-loop-guess
invariant-loop-guess l = record {
  some : 0 < l.square;
  near : IsNear l.square l.guess;
}

abbrev pub decreases-loop-guess : goal.decreases-loop-guess
decreases-loop-guess l = l.guess
