use Rattle.std.proofs.Common.{take}
use Rattle.grammar.specs.Building.{AppendsAll}
use Rattle.trees.specs.Trees.{made_actions}
use Rattle.trees.proofs.tree_maker.TreeMaker.replay.Given as goal

abbrev pub invariant-loop-function : goal.invariant-loop-function
invariant-loop-function g l =
    AppendsAll (g.B.Build.stands l.fn.build) (g.B.Build.stands l.build)
    (made_actions (take l.function-index l.self.functions))
