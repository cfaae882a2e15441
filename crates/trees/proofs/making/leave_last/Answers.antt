use Rattle.trees.proofs.MakingLaws.{last_left}
use Rattle.trees.proofs.making.leave_last.Goals as goal

pub returns : goal.returns
returns c = last_left _ _ _ c.pop.result c.args.statements.now.ok.0 c.pop.ensures.items c.pop.ensures.variant
