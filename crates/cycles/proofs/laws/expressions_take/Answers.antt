use Rattle.cycles.proofs.SpanLaws.{expressions_take}
use Rattle.cycles.proofs.laws.expressions_take.Goals as goal

pub returns : goal.returns
returns c = expressions_take
