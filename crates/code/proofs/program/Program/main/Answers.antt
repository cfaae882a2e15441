use Rattle.std.proofs.Common.{arith, ap, length}
use Rattle.code.specs.Generation.{Program}
use Rattle.code.proofs.ProgramLaws.{main_is_known}
use Rattle.code.proofs.program.Program.main.Goals as goal

pub returns-clause-among : goal.returns-clause-among
returns-clause-among c =
    omega
    (arith, main_is_known _ c.self.invariant.1, ap (λ (program : Program). length program.functions) c.self.view_is)
