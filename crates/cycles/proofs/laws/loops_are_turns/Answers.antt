use Rattle.cycles.proofs.SpanLaws.{loops_are_turns}
use Rattle.cycles.proofs.laws.loops_are_turns.Goals as goal

pub returns : goal.returns
returns c = loops_are_turns
