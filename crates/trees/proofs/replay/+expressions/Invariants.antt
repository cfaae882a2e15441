use Rattle.std.proofs.Common.{map, take}
use Rattle.grammar.specs.Actions.{args_actions}
use Rattle.grammar.specs.Building.{AppendsAll}
use Rattle.trees.specs.Trees.{arguments, expr_tree}
use Rattle.trees.proofs.replay.+expressions.Given as goal

abbrev pub invariant-tell_arguments-loop-expr : goal.invariant-tell_arguments-loop-expr
invariant-tell_arguments-loop-expr g l =
    AppendsAll (g.B.Build.stands l.fn.build) (g.B.Build.stands l.build)
    (args_actions (arguments (map expr_tree (take l.expr-index l.exprs))))
