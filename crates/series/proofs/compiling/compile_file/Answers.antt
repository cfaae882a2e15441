use Rattle.std.proofs.Common.{refl}
use Rattle.series.proofs.FileLemmas.{alike_more, good_file, good_more, good_pieces}
use Rattle.series.proofs.compiling.compile_file.Goals as goal

pub take_program-requires-clause-made : goal.take_program-requires-clause-made
take_program-requires-clause-made g c =
    let good = good_file _ _ c.args.profile _ _ c.restart.ensures c.in-Ok.ensures.file in
    record { profile = c.args.profile; file = good.file; reported = good.reported }

pub take_program-requires-clause-keeps : goal.take_program-requires-clause-keeps
take_program-requires-clause-keeps g c =
    let good = good_file _ _ c.args.profile _ _ c.restart.ensures c.in-Ok.ensures.file in
    rw good.reported.stands.profile at c.requires.keeps

pub returns-in-Ok-take_program-clause-output : goal.returns-in-Ok-take_program-clause-output
returns-in-Ok-take_program-clause-output g c = λ bytes told.
    let good = good_file _ _ c.args.profile _ _ c.restart.ensures c.in-Ok.ensures.file in
    record {
      output = rw (good_pieces _ _ c.args.name.now bytes good.file _ (good.is bytes told) good.reported.named) at
          (c.in-Ok-take_program.ensures.output _ good.file (g.E.Sink.written c.args.err.now) good.reported);
      status = rw (good.is bytes told) refl;
      keeps = rw (good.is bytes told) (c.in-Ok-take_program.ensures.kept _ good.file good.reported);
    }

pub returns-in-Err-clause-output : goal.returns-in-Err-clause-output
returns-in-Err-clause-output g c = λ bytes told.
    let good = good_file _ _ c.args.profile _ _ c.restart.ensures c.in-Ok.ensures.file in
    record {
      output = rw (good_pieces _ _ c.args.name.now bytes good.file _ (good.is bytes told) good.reported.named) at
          (c.in-Err.ensures.output _ good.file (g.E.Sink.written c.args.err.now) good.reported);
      status = tt;
      keeps = tt;
    }

pub returns-in-Ok-take_program-clause-keeps : goal.returns-in-Ok-take_program-clause-keeps
returns-in-Ok-take_program-clause-keeps g c =
    let good = good_file _ _ c.args.profile _ _ c.restart.ensures c.in-Ok.ensures.file in
    let kept = c.in-Ok-take_program.ensures.kept _ good.file good.reported in
    record {
      same_mode = c.in-Ok-take_program.ensures.mode;
      alike = alike_more c.args.profile good.file _ _ c.requires.keeps.alike kept;
      manned = good_more _ _ _ kept;
    }

pub returns-in-Err-clause-keeps : goal.returns-in-Err-clause-keeps
returns-in-Err-clause-keeps g c =
    let good = good_file _ _ c.args.profile _ _ c.restart.ensures c.in-Ok.ensures.file in
    let kept = c.in-Err.ensures.kept _ good.file good.reported in
    record {
      same_mode = c.in-Err.ensures.mode;
      alike = alike_more c.args.profile good.file _ _ c.requires.keeps.alike kept;
      manned = tt;
    }
