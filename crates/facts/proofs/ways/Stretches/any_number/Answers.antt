use Rattle.std.proofs.Common.{Some}
use Rattle.cycles.specs.Ends.{behind, repeated}
use Rattle.facts.proofs.ways.Stretches.any_number.Goals as goal

pub returns : goal.returns
returns c = λ a told.
    let quiet = c.repeated-quiet.ensures a.quiet told.quiet in
    let all = Some (repeated a.quiet) in
    let last = c.joined-last.ensures a.last all told.last quiet in
    record {
      quiet = quiet;
      first = c.joined.ensures all a.first quiet told.first;
      last = last;
      inner =
          c.longer.ensures a.inner (behind (behind a.last all) a.first) told.inner
          (c.joined-2.ensures (behind a.last all) a.first last told.first);
    }
