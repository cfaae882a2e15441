use Rattle.std.proofs.Common.{[], ◌∷◌, refl}
use Rattle.grammar.specs.Grammar.{AName, Exactly, Mentioned, PrefixIncrement}
use Rattle.parser.specs.UnaryOps.{increment_punctuator, increment_store_op, prefix_actions}
use Rattle.parser.proofs.Passing.{passed_on}
use Rattle.parser.proofs.AutomatonLaws.{may_report, operand_done, refuses, told_all}
use Rattle.parser.proofs.OperandSteps.{prefix_path}
use Rattle.parser.proofs.PathLaws.{falls, made, out_of_memory, token_falls, token_past}
use Rattle.parser.proofs.automaton.Automaton.prefix_increment.Goals as goal

pub returns-in_err-advance-clause-moves : goal.returns-in_err-advance-clause-moves
returns-in_err-advance-clause-moves g c =
    rw (passed_on c.from_residual.result c.from_residual.ensures.1) (λ o h.
    token_falls (Exactly (increment_punctuator c.args.increment)) c.requires.starts h.told c.in_err-advance.ensures.kept
    c.in_err-advance.ensures.consumes
    (prefix_path c.args.increment c.requires.starts h.path))

pub returns-in_err-var-clause-moves : goal.returns-in_err-var-clause-moves
returns-in_err-var-clause-moves g c =
    rw (passed_on c.from_residual-in_err-var.result c.from_residual-in_err-var.ensures.1) (λ o h.
    falls (AName Mentioned ∷ []) _ c.in_err-var.field-0.0 (token_past (Exactly (increment_punctuator c.args.increment))
    c.requires.starts c.in_ok-advance.ensures.consumes c.in_ok-advance.ensures.kept
    (prefix_path c.args.increment c.requires.starts h.path)) h.told c.in_err-var.ensures.kept
    c.in_err-var.ensures.matches)

pub report_prefix-requires : goal.report_prefix-requires
report_prefix-requires g c =
    let h = c.requires.at.is in
    record {
      follow =
          may_report h.acts (prefix_actions c.args.increment c.in_ok-var.var) h.told h.new (made
          (PrefixIncrement (increment_store_op c.args.increment)) tt (c.in_ok-var.ensures.passes _ _ _ _
          (token_past (Exactly (increment_punctuator c.args.increment)) c.requires.starts
          c.in_ok-advance.ensures.consumes
          c.in_ok-advance.ensures.kept
          (prefix_path c.args.increment c.requires.starts h.path))));
    }

pub returns-in_err-report_prefix-clause-moves : goal.returns-in_err-report_prefix-clause-moves
returns-in_err-report_prefix-clause-moves g c =
    rw (passed_on c.from_residual-in_err-report_prefix.result c.from_residual-in_err-report_prefix.ensures.1) (λ o h.
    out_of_memory (c.in_ok-var.ensures.passes _ _ _ _ (token_past (Exactly (increment_punctuator c.args.increment))
    c.requires.starts c.in_ok-advance.ensures.consumes c.in_ok-advance.ensures.kept
    (prefix_path c.args.increment c.requires.starts h.path)))
    (refuses c.in_err-report_prefix.field-0.0 _ c.in_err-report_prefix.ensures.memory))

pub returns-clause-moves : goal.returns-clause-moves
returns-clause-moves g c = λ o h.
    operand_done c.args.floor h (made (PrefixIncrement (increment_store_op c.args.increment)) tt
    (c.in_ok-var.ensures.passes _ _ _ _ (token_past (Exactly (increment_punctuator c.args.increment)) c.requires.starts
    c.in_ok-advance.ensures.consumes c.in_ok-advance.ensures.kept
    (prefix_path c.args.increment c.requires.starts h.path))))
    (told_all _ _ (prefix_actions c.args.increment c.in_ok-var.var) c.in_ok-report_prefix.ensures.reported h.told) refl
    refl
