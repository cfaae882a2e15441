use Rattle.std.proofs.Common.{◌+◌, [], ◌∷◌, refl, ap, arith}
use Rattle.grammar.specs.Grammar.{Close, Exactly, Make, Part, Unary}
use Rattle.parser.specs.UnaryOps.{actions_before_operand, unary_action, unary_punctuator}
use Rattle.parser.proofs.Passing.{passed_on}
use Rattle.parser.proofs.AutomatonLaws.{comes_to, has_room, may_report, nests, refuses, shallow, told_all, under_tails}
use Rattle.parser.proofs.OperandForms.{sign_chooses, sign_is_nested}
use Rattle.parser.proofs.OperandSteps.{sign_path}
use Rattle.parser.proofs.PathLaws.{out_of_memory, token_falls, token_past}
use Rattle.parser.proofs.Productions.{token_too_deep}
use Rattle.parser.proofs.automaton.Automaton.sign.Goals as goal

pub returns-in_err-check_nesting-clause-moves : goal.returns-in_err-check_nesting-clause-moves
returns-in_err-check_nesting-clause-moves g c =
    rw (passed_on c.from_residual.result c.from_residual.ensures.1) (λ o h.
    nests h.path (under_tails c.args.floor _ c.args.self.now.frames h.depth) c.in_err-check_nesting.ensures.refused (λ
    depth.
    token_too_deep c.args.self.now.tokens.position _ h.path.ready.near depth Unary
    (Exactly (unary_punctuator c.args.sign))
    (Part Unary ∷ Make (unary_action c.args.sign) ∷ Close ∷ [])
    (sign_chooses c.args.self.now.tokens.position c.args.sign c.requires.starts)
    (sign_is_nested c.args.self.now.tokens.position c.args.sign c.requires.starts) c.requires.starts))

pub report_before_operand-requires : goal.report_before_operand-requires
report_before_operand-requires g c =
    let h = c.requires.at.is in
    record {
      follow =
          may_report h.acts (actions_before_operand c.args.sign) h.told h.new
          (sign_path c.args.sign c.requires.starts
          (shallow c.args.floor _ c.args.self.now.frames h.depth c.in_ok-check_nesting.ensures.ok) h.path);
    }

pub returns-in_err-report_before_operand-clause-moves : goal.returns-in_err-report_before_operand-clause-moves
returns-in_err-report_before_operand-clause-moves g c =
    rw
    (passed_on c.from_residual-in_err-report_before_operand.result
    c.from_residual-in_err-report_before_operand.ensures.1) (λ o h.
    out_of_memory h.path
    (refuses c.in_err-report_before_operand.field-0.0 _ c.in_err-report_before_operand.ensures.memory))

pub returns-in_err-advance-clause-moves : goal.returns-in_err-advance-clause-moves
returns-in_err-advance-clause-moves g c =
    rw (passed_on c.from_residual-in_err-advance.result c.from_residual-in_err-advance.ensures.1) (λ o h.
    token_falls (Exactly (unary_punctuator c.args.sign)) c.requires.starts
    (told_all _ _ (actions_before_operand c.args.sign) c.in_ok-report_before_operand.ensures.reported h.told)
    c.in_err-advance.ensures.kept c.in_err-advance.ensures.consumes
    (sign_path c.args.sign c.requires.starts
    (shallow c.args.floor _ c.args.self.now.frames h.depth c.in_ok-check_nesting.ensures.ok) h.path))

pub push-requires : goal.push-requires
push-requires g c =
    let h = c.requires.at.is in
    has_room _ c.args.floor h.fits.most h.fits.takes (rw h.depth c.in_ok-check_nesting.ensures.ok)

pub returns-clause-moves : goal.returns-clause-moves
returns-clause-moves g c = λ o h.
    rw c.push.ensures (comes_to h
    (token_past (Exactly (unary_punctuator c.args.sign)) c.requires.starts c.in_ok-advance.ensures.consumes
    c.in_ok-advance.ensures.kept
    (sign_path c.args.sign c.requires.starts
    (shallow c.args.floor _ c.args.self.now.frames h.depth c.in_ok-check_nesting.ensures.ok) h.path))
    (told_all _ _ (actions_before_operand c.args.sign) c.in_ok-report_before_operand.ensures.reported h.told)
    (ap (λ n. n + 1) (under_tails c.args.floor _ c.args.self.now.frames h.depth))
    (omega (arith, c.in_ok-check_nesting.ensures.ok))
    (record {
      least = omega arith;
      most = omega arith;
      takes = (refl, h.fits.least, h.fits.most, h.fits.takes);
      trees = h.fits.trees;
    }))
