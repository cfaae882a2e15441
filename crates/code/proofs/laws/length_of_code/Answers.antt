use Rattle.std.proofs.Common.{◌∙◌, ◌+◌, ◌∷◌, [], List, ap, sym, length, length-append}
use Rattle.grammar.specs.Actions.{actions}
use Rattle.code.specs.declared.instr.Instr.{Instr}
use Rattle.code.specs.declared.instr.Instr.TheVariants.{Nop}
use Rattle.code.specs.Making.{maker_after}
use Rattle.code.proofs.Making.{made_file_code}
use Rattle.code.proofs.Steps.{length-maker_after}
use Rattle.code.proofs.laws.length_of_code.Goals as goal

pub returns : goal.returns
returns c p file resolved =
    ap (λ (code : List Instr). length code) (sym (made_file_code p file resolved))
    ∙ length-append (maker_after p (actions file)).code (Nop ∷ [])
    ∙ ap (λ n. n + 1) (length-maker_after p (actions file))
