use Rattle.grammar.proofs.FollowingLaws.{file_leads}
use Rattle.grammar.proofs.laws.actions.Goals as goal

pub returns : goal.returns
returns c = file_leads
