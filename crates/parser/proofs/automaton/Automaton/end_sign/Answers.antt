use Rattle.std.proofs.Common.{◌-◌, arith}
use Rattle.grammar.specs.declared.operators.TheConstants.{UNARY_LEVEL}
use Rattle.parser.specs.UnaryOps.{actions_after_operand}
use Rattle.parser.proofs.Passing.{passed_on}
use Rattle.parser.proofs.AutomatonLaws.{closes, may_report, operand_stands, refuses, told_all}
use Rattle.parser.proofs.OperandSteps.{signed_path}
use Rattle.parser.proofs.PathLaws.{closed, out_of_memory}
use Rattle.parser.proofs.TreeLaws.{done_at, has_expr, valued}
use Rattle.parser.proofs.automaton.Automaton.end_sign.Goals as goal

pub report_after_operand-requires : goal.report_after_operand-requires
report_after_operand-requires g c =
    let h = c.requires.at.is in
    let x = has_expr _ h.values (done_at (UNARY_LEVEL - 1) h.fits h.fits.takes.0).1 in
    record {
      follow =
          may_report h.acts (actions_after_operand c.args.sign) h.told h.new
          (signed_path c.args.sign (valued x.is h.path));
    }

pub returns-in_err-report_after_operand-clause-moves : goal.returns-in_err-report_after_operand-clause-moves
returns-in_err-report_after_operand-clause-moves g c =
    rw (passed_on c.from_residual.result c.from_residual.ensures.1) (λ o h.
    out_of_memory h.path
    (refuses c.in_err-report_after_operand.field-0.0 _ c.in_err-report_after_operand.ensures.memory))

pub returns-clause-moves : goal.returns-clause-moves
returns-clause-moves g c = λ o h.
    let x = has_expr _ h.values (done_at (UNARY_LEVEL - 1) h.fits h.fits.takes.0).1 in
    operand_stands h c.args.floor (closed (signed_path c.args.sign (valued x.is h.path)))
    (told_all _ _ (actions_after_operand c.args.sign) c.in_ok-report_after_operand.ensures.reported h.told)
    (closes c.args.floor _ c.args.self.now.frames h.depth) (omega (arith, h.few))
    (record { least = h.fits.takes.1; most = h.fits.takes.2; takes = h.fits.takes.3; trees = x.below })
