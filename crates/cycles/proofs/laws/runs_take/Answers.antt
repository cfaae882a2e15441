use Rattle.cycles.proofs.SpanLaws.{runs_take}
use Rattle.cycles.proofs.laws.runs_take.Goals as goal

pub returns : goal.returns
returns c = runs_take
