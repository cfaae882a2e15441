use Rattle.cycles.proofs.SpanLaws.{turns_take}
use Rattle.cycles.proofs.laws.turns_take.Goals as goal

pub returns : goal.returns
returns c = turns_take
