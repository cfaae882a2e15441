use Rattle.std.proofs.Common.{take}
use Rattle.grammar.specs.Actions.{body_actions}
use Rattle.grammar.specs.Building.{AppendsAll}
use Rattle.trees.specs.Trees.{body_tree}
use Rattle.trees.proofs.replay.+statements.Given as goal

abbrev pub invariant-tell_statements-loop-statement : goal.invariant-tell_statements-loop-statement
invariant-tell_statements-loop-statement g l =
    AppendsAll (g.B.Build.stands l.fn.build) (g.B.Build.stands l.build)
    (body_actions (body_tree (take l.statement-index l.statements)))
