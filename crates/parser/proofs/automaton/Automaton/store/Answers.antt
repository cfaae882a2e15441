use Rattle.std.proofs.Common.{arith}
use Rattle.grammar.specs.Grammar.{Store}
use Rattle.parser.proofs.Passing.{passed_on}
use Rattle.parser.proofs.AutomatonLaws.{comes_to, refuses}
use Rattle.parser.proofs.PathLaws.{closed, made, may, told_more, out_of_memory}
use Rattle.parser.proofs.TreeLaws.{done_at, has_expr, has_variable, on_both, valued}
use Rattle.parser.proofs.automaton.Automaton.store.Goals as goal

pub act-requires : goal.act-requires
act-requires g c =
    let h = c.requires.at.is in
    let d = done_at 0 h.fits h.fits.takes.0 in
    let x = has_expr _ h.values d.1 in
    let y = has_variable c.args.var _ x.rest x.below in
    record { follows = may h.acts h.told h.new (made (Store c.args.op) tt (valued (on_both x.is y.is) h.path)) }

pub returns-in_err-act-clause-moves : goal.returns-in_err-act-clause-moves
returns-in_err-act-clause-moves g c =
    rw (passed_on c.from_residual.result c.from_residual.ensures.1) (λ o h.
    out_of_memory h.path (refuses c.in_err-act.field-0.0 _ c.in_err-act.ensures.judged))

pub returns-clause-moves : goal.returns-clause-moves
returns-clause-moves g c = λ o h.
    let d = done_at 0 h.fits h.fits.takes.0 in
    let x = has_expr _ h.values d.1 in
    let y = has_variable c.args.var _ x.rest x.below in
    comes_to h (closed (made (Store c.args.op) tt (valued (on_both x.is y.is) h.path)))
    (told_more _ _ c.in_ok-act.ensures.ok h.told) (omega (arith, h.depth)) (omega (arith, h.few))
    (record { level = 1; takes = h.fits.takes.1; ends = (d.0, y.below) })
