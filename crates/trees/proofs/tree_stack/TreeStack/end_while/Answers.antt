use Rattle.std.proofs.lemmas.Result.{on_ok_weaker}
use Rattle.trees.proofs.MakingLaws.{while_continues}
use Rattle.trees.proofs.tree_stack.TreeStack.end_while.Goals as goal

pub returns-clause-ok : goal.returns-clause-ok
returns-clause-ok c =
    rw c.take_body-heading.ensures
    (on_ok_weaker c.add_statement.result
    (while_continues (record { heading = c.take_body-heading.result.0; statements = c.take_body-heading.result.1 })
    c.in-Loop.condition c.take_body-heading.new.self _ c.in-Loop.is)
    c.add_statement.ensures.ok)
