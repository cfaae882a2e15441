use Rattle.derivations.proofs.Behind.{two_are}
use Rattle.derivations.proofs.steps.two_in_front.Goals as goal

pub returns : goal.returns
returns c =
    two_are c.args.stack.now c.before_last.result.now c.last_item.result c.last_item-2.result c.before_last.ensures
    c.last_item.ensures c.last_item-2.ensures
