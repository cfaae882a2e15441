use Rattle.std.proofs.Common.{[], ◌∷◌, refl}
use Rattle.grammar.specs.Grammar.{AName, Exactly, Mentioned, PostfixIncrement}
use Rattle.parser.specs.UnaryOps.{increment_punctuator, increment_store_op, postfix_actions}
use Rattle.parser.proofs.Passing.{passed_on}
use Rattle.parser.proofs.AutomatonLaws.{may_report, operand_done, refuses, told_all}
use Rattle.parser.proofs.OperandSteps.{postfix_path}
use Rattle.parser.proofs.PathLaws.{falls, made, out_of_memory}
use Rattle.parser.proofs.automaton.Automaton.postfix_increment.Goals as goal

pub returns-in_err-var-clause-moves : goal.returns-in_err-var-clause-moves
returns-in_err-var-clause-moves g c =
    rw (passed_on c.from_residual.result c.from_residual.ensures.1) (λ o h.
    falls (AName Mentioned ∷ []) _ c.in_err-var.field-0.0 (postfix_path c.args.increment c.requires.starts h.path)
    h.told c.in_err-var.ensures.kept
    c.in_err-var.ensures.matches)

pub returns-in_err-expect-clause-moves : goal.returns-in_err-expect-clause-moves
returns-in_err-expect-clause-moves g c =
    rw (passed_on c.from_residual-in_err-expect.result c.from_residual-in_err-expect.ensures.1) (λ o h.
    falls (Exactly (increment_punctuator c.args.increment) ∷ []) _ c.in_err-expect.field-0.0
    (c.in_ok-var.ensures.passes _ _ _ _ (postfix_path c.args.increment c.requires.starts h.path)) h.told
    c.in_err-expect.ensures.kept
    (rw c.punctuator.ensures at c.in_err-expect.ensures.matches))

pub report_postfix-requires : goal.report_postfix-requires
report_postfix-requires g c =
    let h = c.requires.at.is in
    record {
      follow =
          may_report h.acts (postfix_actions c.args.increment c.in_ok-var.var) h.told h.new (made
          (PostfixIncrement (increment_store_op c.args.increment)) tt
          ((rw c.punctuator.ensures at c.in_ok-expect.ensures.passes) _ _ _ _
          (c.in_ok-var.ensures.passes _ _ _ _ (postfix_path c.args.increment c.requires.starts h.path))));
    }

pub returns-in_err-report_postfix-clause-moves : goal.returns-in_err-report_postfix-clause-moves
returns-in_err-report_postfix-clause-moves g c =
    rw (passed_on c.from_residual-in_err-report_postfix.result c.from_residual-in_err-report_postfix.ensures.1) (λ o h.
    out_of_memory
    ((rw c.punctuator.ensures at c.in_ok-expect.ensures.passes) _ _ _ _
    (c.in_ok-var.ensures.passes _ _ _ _ (postfix_path c.args.increment c.requires.starts h.path)))
    (refuses c.in_err-report_postfix.field-0.0 _ c.in_err-report_postfix.ensures.memory))

pub returns-clause-moves : goal.returns-clause-moves
returns-clause-moves g c = λ o h.
    operand_done c.args.floor h (made (PostfixIncrement (increment_store_op c.args.increment)) tt
    ((rw c.punctuator.ensures at c.in_ok-expect.ensures.passes) _ _ _ _
    (c.in_ok-var.ensures.passes _ _ _ _ (postfix_path c.args.increment c.requires.starts h.path))))
    (told_all _ _ (postfix_actions c.args.increment c.in_ok-var.var) c.in_ok-report_postfix.ensures.reported h.told)
    refl
    refl
