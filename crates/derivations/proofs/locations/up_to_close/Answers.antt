use Rattle.std.proofs.Common.{refl, sym, ◌∙◌}
use Rattle.derivations.proofs.Placing.{begun, closed, goes_on, never_closed}
use Rattle.derivations.proofs.locations.up_to_close.Goals as goal

pub loop-i-init : goal.loop-i-init
loop-i-init c = begun c.args.inside.now

pub loop-i-preserved : goal.loop-i-preserved
loop-i-preserved c =
    goes_on c.args.inside.now c.loop-i.i c.loop-i.is_star _ c.loop-i-test.true
    (sym c.closes.ensures ∙ c.if-closes.false)
    refl c.loop-i.invariant

pub returns-then-closes-clause-value : goal.returns-then-closes-clause-value
returns-then-closes-clause-value c =
    closed c.args.inside.now c.loop-i.i c.loop-i.is_star c.loop-i-test.true (sym c.closes.ensures ∙ c.if-closes.true)
    c.loop-i.invariant

pub returns-clause-value : goal.returns-clause-value
returns-clause-value c =
    never_closed c.args.inside.now c.loop-i.i c.loop-i.is_star c.loop-i-test.false c.loop-i.invariant
