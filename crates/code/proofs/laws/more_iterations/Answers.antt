use Rattle.code.proofs.Correct.{more_turns}
use Rattle.code.proofs.laws.more_iterations.Goals as goal

pub returns : goal.returns
returns c p file resolved trace n enough = more_turns p file resolved trace n enough
