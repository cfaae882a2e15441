use Rattle.std.proofs.Common.{arith}
use Rattle.trees.proofs.RepresentationLaws.{some}
use Rattle.trees.proofs.tree_maker.TreeMaker.new.Goals as goal

pub prove-unreachable-requires : goal.prove-unreachable-requires
prove-unreachable-requires c = omega (arith, some _ c.instructions.ensures.is_profile)
