use Rattle.cycles.proofs.SpanLaws.{statements_take}
use Rattle.cycles.proofs.laws.statements_take.Goals as goal

pub returns : goal.returns
returns c = statements_take
