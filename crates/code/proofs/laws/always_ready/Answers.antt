use Rattle.code.proofs.Correct.{never_stuck}
use Rattle.code.proofs.laws.always_ready.Goals as goal

pub returns : goal.returns
returns c p file resolved trace = never_stuck p file resolved trace
