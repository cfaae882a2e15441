use Rattle.std.proofs.Common.{◌∙◌}
use Rattle.battles.proofs.ProgramsLemmas.{kept_at, kept_some}
use Rattle.battles.proofs.battle_executables.Executables.kept_executable.Goals as goal

pub unreachable-requires : goal.unreachable-requires
unreachable-requires c =
    kept_some c.args.self.now c.args.robot c.requires
    (kept_at c.self.inside.exes.items c.as_slice.result.now c.args.self.now c.args.robot c.index-as_slice-robot.result
    c.self.invariant c.self.view_is c.as_slice.ensures.value c.requires c.index-as_slice-robot.is ∙ c.in-None.is)
