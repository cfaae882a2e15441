use Rattle.std.proofs.Common.{rules}
use Rattle.derivations.proofs.compiling.compile.Goals as goal

pub finish-program-requires : goal.finish-program-requires
finish-program-requires g c =
    let is = c.in_ok-names.ensures.file in
    record {
      profile = _;
      file = is.file;
      reported = record
          { resolved = is.resolved; stands = is.built _ c.new-maker.ensures; named = is.named; main = is.main };
    }

pub returns-clause-compiles : goal.returns-clause-compiles
returns-clause-compiles g c = λ bytes told.
    let is = c.in_ok-names.ensures.file in
    record {
      compiles = record { file = is.file; is = is.is bytes told _ c.new-maker.ensures };
      program = search rules;
      names = is.named;
    }
