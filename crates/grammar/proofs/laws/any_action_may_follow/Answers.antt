use Rattle.grammar.proofs.RepresentationLaws.{may_follow}
use Rattle.grammar.proofs.laws.any_action_may_follow.Goals as goal

pub returns : goal.returns
returns g c builder = may_follow (g.B.Build.stands builder)
