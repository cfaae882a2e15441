use Rattle.grammar.proofs.Keeping.{blocks_keep}
use Rattle.grammar.proofs.laws.blocks_keep_scope.Goals as goal

pub returns : goal.returns
returns c = blocks_keep
