use Rattle.trees.proofs.Rebuilding.{actions_determine_trees}
use Rattle.trees.proofs.laws.actions_determine_trees.Goals as goal

pub returns : goal.returns
returns c = actions_determine_trees
