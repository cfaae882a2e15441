use Rattle.std.proofs.Common.{◌∙◌, ap, length, List, ℕ}
use Rattle.code.specs.Generation.{Program}
use Rattle.code.proofs.ProgramLaws.{addresses_of_file}
use Rattle.code.proofs.program.Program.addresses.Goals as goal

pub returns-clause-each : goal.returns-clause-each
returns-clause-each c =
    ap (λ (xs : List ℕ). length xs) c.as_slice.ensures.value
    ∙ addresses_of_file _ c.self.invariant.1
    ∙ ap (λ (program : Program). length program.functions) c.self.view_is
