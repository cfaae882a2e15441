use Rattle.cycles.proofs.SpanLaws.{cycles_are_replies}
use Rattle.cycles.proofs.laws.cycles_are_replies.Goals as goal

pub returns : goal.returns
returns c = cycles_are_replies
