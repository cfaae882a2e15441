use Rattle.series.proofs.runs.compile_files.Goals as goal

pub compile_all-requires-clause-ready : goal.compile_all-requires-clause-ready
compile_all-requires-clause-ready g c = c.requires.ready

pub returns-in-Ok-Done : goal.returns-in-Ok-Done
returns-in-Ok-Done g c = record {
  over = record {
    output = λ sources are.
        let made = c.in-Ok-Done.ensures.over.output sources are in
        (made.output.0, rw c.in-Ok-Done.field-0-is at made.programs);
    read = c.in-Ok-Done.ensures.over.read;
    failures = c.in-Ok-Done.ensures.over.failures;
  };
  manned = c.in-Ok-Done.ensures.keeps.manned c.in-Ok-Done.field-0-is;
  profile = c.in-Ok-Done.ensures.keeps.alike;
}

pub returns-in-Ok-Faulty-clause-over : goal.returns-in-Ok-Faulty-clause-over
returns-in-Ok-Faulty-clause-over g c = record {
  output = λ sources are.
      let made = c.in-Ok-Faulty.ensures.over.output sources are in
      (made.output.0, rw c.in-Ok-Faulty.field-0-is at made.programs);
  read = c.in-Ok-Faulty.ensures.over.read;
  failures = c.in-Ok-Faulty.ensures.over.failures;
}

pub returns-in-Err-clause-over : goal.returns-in-Err-clause-over
returns-in-Err-clause-over g c = record {
  output = λ sources are. (c.in-Err.ensures.over.output sources are).output;
  read = c.in-Err.ensures.over.read;
  failures = c.in-Err.ensures.over.failures;
}
