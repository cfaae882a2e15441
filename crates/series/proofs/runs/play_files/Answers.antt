use Rattle.std.proofs.Common.{length, rules}
use Rattle.series.proofs.OutputLemmas.{faulty_run, kept_codes, played_run, played_stop, stops_run}
use Rattle.series.proofs.ReadingLemmas.{cut_behind}
use Rattle.series.specs.SourceContents.{known_to_come}
use Rattle.series.proofs.runs.play_files.Goals as goal

pub play_all-requires-clause-manned : goal.play_all-requires-clause-manned
play_all-requires-clause-manned g c = c.in-Ok-Done.ensures.keeps.manned c.in-Ok-Done.field-0-is

pub returns-in-Ok : goal.returns-in-Ok
returns-in-Ok g c = record {
  output = λ sources are.
      let made = rw c.in-Ok-Done.field-0-is at (c.in-Ok-Done.ensures.over.output sources are) in
      let kept = kept_codes c.resolved_files.ensures c.args.settings.now.profile sources _ made.programs in
      played_run c.args.settings.now sources kept.0 _ _ _ c.requires.matches kept.1 made.output.0
      (c.in-Ok.ensures.output kept.0 (g.E.Sink.written c.compile_all.new.err) kept.2);
  read = c.in-Ok-Done.ensures.over.read;
  failures = search rules;
}

pub returns-in-Err-Write : goal.returns-in-Err-Write
returns-in-Err-Write g c = record {
  output = λ sources are.
      let made = rw c.in-Ok-Done.field-0-is at (c.in-Ok-Done.ensures.over.output sources are) in
      let kept = kept_codes c.resolved_files.ensures c.args.settings.now.profile sources _ made.programs in
      played_stop c.args.settings.now sources kept.0 _ _ _ c.requires.matches kept.1 made.output.0
      (c.in-Err-Write.ensures.output kept.0 (g.E.Sink.written c.compile_all.new.err) kept.2);
  read = record {
    count = length (known_to_come g.F.Feed.device c.args.feeds.now);
    reads = c.in-Ok-Done.ensures.over.read;
    puts = λ sources are.
        let made = rw c.in-Ok-Done.field-0-is at (c.in-Ok-Done.ensures.over.output sources are) in
        let kept = kept_codes c.resolved_files.ensures c.args.settings.now.profile sources _ made.programs in
        cut_behind _ _ sources _ _ _ _ _ made.output.0
        (c.in-Err-Write.ensures.output kept.0 (g.E.Sink.written c.compile_all.new.err) kept.2);
  };
  failures = search rules;
}

pub returns-in-Ok-Faulty : goal.returns-in-Ok-Faulty
returns-in-Ok-Faulty g c = record {
  output = λ sources are.
      let made = rw c.in-Ok-Faulty.field-0-is at (c.in-Ok-Faulty.ensures.over.output sources are) in
      faulty_run c.args.settings.now sources _ _ made.output.0 made.programs;
  read = c.in-Ok-Faulty.ensures.over.read;
  failures = c.in-Ok-Faulty.ensures.over.failures;
}

pub returns-in-Err : goal.returns-in-Err
returns-in-Err g c = record {
  output = λ sources are.
      stops_run c.args.settings.now sources c.in-Err.fault _ _ (c.in-Err.ensures.over.output sources are).output;
  read = c.in-Err.ensures.over.read;
  failures = c.in-Err.ensures.over.failures;
}
