use Rattle.derivations.proofs.Counting.{counted}
use Rattle.derivations.proofs.emissions.Emission.instructions.Goals as goal

pub loop-action-preserved : goal.loop-action-preserved
loop-action-preserved c =
    let both = counted c.args.profile c.actions-actions.result.now c.loop-action.action-index c.loop-action.made
    c.instructions.result c.from.result c.saturating_add-made.result c.loop-action-test.true
    c.actions-actions.ensures.most c.loop-action.invariant.made c.loop-action.invariant.few
    c.instructions.ensures.value c.instructions.ensures.most c.from.ensures c.saturating_add-made.ensures in
    record { made = both.0; few = both.1 }
