use Rattle.series.proofs.OutputLemmas.{lists_run}
use Rattle.series.proofs.runs.run.Goals as goal

pub returns-in-Listing : goal.returns-in-Listing
returns-in-Listing g c = record {
  output = λ sources are.
      lists_run c.args.settings.now sources c.compile_all.result _ _ (cc (c.in-Listing.is, c.mode.ensures.value))
      (c.compile_all.ensures.over.output sources are).output;
  read = c.compile_all.ensures.over.read;
  failures = c.compile_all.ensures.over.failures;
}

pub returns-in-Matches : goal.returns-in-Matches
returns-in-Matches g c = record {
  output = c.play_files.ensures.output;
  read = c.play_files.ensures.read;
  failures = c.play_files.ensures.failures;
}
