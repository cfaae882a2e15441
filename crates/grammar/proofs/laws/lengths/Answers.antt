use Rattle.grammar.proofs.Lengths.{function_lengths}
use Rattle.grammar.proofs.laws.lengths.Goals as goal

pub returns : goal.returns
returns c = function_lengths
