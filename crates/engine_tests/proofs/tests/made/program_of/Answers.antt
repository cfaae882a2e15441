use Rattle.engine_tests.proofs.tests.made.program_of.Goals as goal

pub finish-requires : goal.finish-requires
finish-requires c =
    let f = c.in-Ok.ensures.file in
    record {
      profile = _;
      file = f.file;
      reported = record
          { resolved = f.resolved; stands = f.built _ c.new-maker.ensures; named = f.named; main = f.main };
    }
