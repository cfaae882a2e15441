use Rattle.code.proofs.Correct.{want_code_is_want}
use Rattle.code.proofs.laws.code_means_trees.Goals as goal

pub returns : goal.returns
returns c p file resolved trace = want_code_is_want p file resolved trace
