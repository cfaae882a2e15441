-- What is known of runs, each worked out.
use Rattle.std.proofs.Common.{refl}
use Rattle.watching.specs.KnownRuns.{KnownRuns}

pub known : KnownRuns
known = record {
  the_start = refl;
  straight_on = refl;
  slower = refl;
  another_heading = refl;
  told_already = refl;
}
