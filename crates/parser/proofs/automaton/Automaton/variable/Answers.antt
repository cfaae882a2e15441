use Rattle.std.proofs.Common.{[], ◌∷◌, refl}
use Rattle.grammar.specs.Grammar.{AName, Fetch, Mentioned}
use Rattle.parser.proofs.Passing.{passed_on}
use Rattle.parser.proofs.AutomatonLaws.{moves_from, operand_done, refuses}
use Rattle.parser.proofs.OperandSteps.{variable_path}
use Rattle.parser.proofs.PathLaws.{falls, made, may, told_more, out_of_memory}
use Rattle.parser.proofs.automaton.Automaton.variable.Goals as goal

pub returns-in_err-var-clause-moves : goal.returns-in_err-var-clause-moves
returns-in_err-var-clause-moves g c =
    rw (passed_on c.from_residual.result c.from_residual.ensures.1) (λ o h.
    falls (AName Mentioned ∷ []) _ c.in_err-var.field-0.0 (variable_path c.requires.starts h.path) h.told
    c.in_err-var.ensures.kept
    c.in_err-var.ensures.matches)

pub act-requires : goal.act-requires
act-requires g c =
    let h = c.requires.at.is in
    record {
      follows =
          may h.acts h.told h.new
          (made Fetch tt (c.in_ok-var.ensures.passes _ _ _ _ (variable_path c.requires.starts h.path)));
    }

pub returns-in_err-act-clause-moves : goal.returns-in_err-act-clause-moves
returns-in_err-act-clause-moves g c =
    rw (passed_on c.from_residual-in_err-act.result c.from_residual-in_err-act.ensures.1) (λ o h.
    out_of_memory (c.in_ok-var.ensures.passes _ _ _ _ (variable_path c.requires.starts h.path))
    (refuses c.in_err-act.field-0.0 _ c.in_err-act.ensures.judged))

pub operators-requires : goal.operators-requires
operators-requires g c =
    let h = c.requires.at.is in
    record {
      at = record {
        start = c.requires.at.start;
        is = operand_done c.args.floor h
            (made Fetch tt (c.in_ok-var.ensures.passes _ _ _ _ (variable_path c.requires.starts h.path)))
            (told_more _ _ c.in_ok-act.ensures.ok h.told) refl refl;
      };
    }

pub returns-clause-moves : goal.returns-clause-moves
returns-clause-moves g c =
    moves_from _ _ _ _ _ _ _ c.operators.result
    (λ o h. operand_done c.args.floor h
    (made Fetch tt (c.in_ok-var.ensures.passes _ _ _ _ (variable_path c.requires.starts h.path)))
    (told_more _ _ c.in_ok-act.ensures.ok h.told) refl refl)
    c.operators.ensures.moves
