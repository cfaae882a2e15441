use Rattle.std.proofs.Common.{◌≡◌, ◌+◌, ◌-◌, ◌∙◌, ℕ, suc, sym, subst, arith}
use Rattle.std.specs.Prelude.{None}
use Rattle.grammar.specs.Grammar.{Operate}
use Rattle.grammar.specs.Laws.Climbing.{operator_from}
use Rattle.parser.specs.Automata.{stack_of}
use Rattle.parser.specs.ScopedCursors.{token_of}
use Rattle.parser.proofs.Passing.{passed_on}
use Rattle.parser.proofs.AutomatonLaws.{nested_tails, operators_stand, refuses}
use Rattle.parser.proofs.PathLaws.{made, may, told_more, out_of_memory}
use Rattle.parser.proofs.TreeLaws.{done_at, has_expr, on_both, valued}
use Rattle.parser.proofs.automaton.Automaton.operate.Goals as goal

pub act-requires : goal.act-requires
act-requires g c =
    let h = c.requires.at.is in
    let level : h.fits.level ≡ suc c.args.level = h.fits.takes.0 ∙ omega arith in
    let d = done_at c.args.level h.fits level in
    let x = has_expr _ h.values d.1 in
    let y = has_expr _ x.rest x.below in
    record { follows = may h.acts h.told h.new (made (Operate c.args.op) tt (valued (on_both x.is y.is) h.path)) }

pub returns-in_err-act-clause-moves : goal.returns-in_err-act-clause-moves
returns-in_err-act-clause-moves g c =
    rw (passed_on c.from_residual.result c.from_residual.ensures.1) (λ o h.
    out_of_memory h.path (refuses c.in_err-act.field-0.0 _ c.in_err-act.ensures.judged))

pub returns-clause-moves : goal.returns-clause-moves
returns-clause-moves g c = λ o h.
    let level : h.fits.level ≡ suc c.args.level = h.fits.takes.0 ∙ omega arith in
    let d = done_at c.args.level h.fits level in
    let x = has_expr _ h.values d.1 in
    let y = has_expr _ x.rest x.below in
    let same : suc c.args.level ≡ c.args.floor + (c.args.level + 1 - c.args.floor) = omega (arith, h.fits.takes.2) in
    operators_stand h (c.args.level + 1 - c.args.floor) c.args.floor
    (subst (λ (n : ℕ). operator_from n (token_of c.args.self.now.tokens) ≡ None) same d.0)
    (made (Operate c.args.op) tt (valued (on_both x.is y.is) h.path)) (told_more _ _ c.in_ok-act.ensures.ok h.told)
    (sym (nested_tails (c.args.level + 1 - c.args.floor) c.args.floor (stack_of c.args.self.now.frames)) ∙ h.depth)
    h.few
    (record {
      least = h.fits.takes.1;
      most = omega (arith, h.fits.takes.2, h.fits.takes.3);
      takes = h.fits.takes.4;
      trees = y.below;
    })
