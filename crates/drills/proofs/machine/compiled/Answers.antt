use Rattle.std.proofs.Common.{rules, Some}
use Rattle.code.specs.Reported.{MakerRepresents}
use Rattle.parser.specs.ParsedFiles.{ParsesToFile}
use Rattle.drills.proofs.machine.compiled.Goals as goal

pub finish-requires : goal.finish-requires
finish-requires c =
    let f : ParsesToFile (λ p acts. MakerRepresents c.new-maker.result p acts)
    (λ p acts. MakerRepresents c.parse.new.build p acts)
    (Some c.new.result.to_come) c.in_ok-names.names =
    search rules in
    record {
      profile = _;
      file = f.file;
      reported = record
          { resolved = f.resolved; stands = f.built _ c.new-maker.ensures; named = f.named; main = f.main };
    }
