use Rattle.std.proofs.Common.{◌∙◌, List, sym, refl, bytes_eq, arith}
use Rattle.std.proofs.lemmas.List.{at_drop_all}
use Rattle.std.specs.Prelude.{find}
use Rattle.tools.specs.declared.options.GivenOption.{GivenOption}
use Rattle.tools.proofs.Finding.{find_here, find_later}
use Rattle.tools.proofs.options.Options.found.Goals as goal

pub loop-given-init : goal.loop-given-init
loop-given-init c = rw c.deref-given-items.ensures.value refl

pub returns-then-eq : goal.returns-then-eq
returns-then-eq c =
    sym (find_here (λ (given : GivenOption). bytes_eq given.name.now c.args.name.now) c.deref-given-items.result.now
    c.loop-given.given-index _ c.loop-given-test.true (sym c.eq.ensures ∙ c.if-eq.true))
    ∙ c.loop-given.invariant

pub loop-given-preserved : goal.loop-given-preserved
loop-given-preserved c =
    sym (find_later (λ (given : GivenOption). bytes_eq given.name.now c.args.name.now) c.deref-given-items.result.now
    c.loop-given.given-index _ c.loop-given-test.true (sym c.eq.ensures ∙ c.if-eq.false))
    ∙ c.loop-given.invariant

pub returns : goal.returns
returns c =
    sym (at_drop_all (λ (items : List GivenOption). find (λ given. bytes_eq given.name.now c.args.name.now) items)
    c.deref-given-items.result.now c.loop-given.given-index (omega (arith, c.loop-given-test.false)))
    ∙ c.loop-given.invariant
