use Rattle.std.proofs.Common.{◌∙◌}
use Rattle.battles.proofs.ProgramsLemmas.{kept_at, kept_some}
use Rattle.battles.proofs.programs.Programs.program.Goals as goal

pub unreachable-requires : goal.unreachable-requires
unreachable-requires c =
    kept_some c.args.self.now c.args.file c.requires
    (kept_at c.self.inside.programs.items c.as_slice.result.now c.args.self.now c.args.file c.index-as_slice-file.result
    c.self.invariant.0 c.self.view_is c.as_slice.ensures.value c.requires c.index-as_slice-file.is ∙ c.in-None.is)
