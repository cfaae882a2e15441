use Rattle.std.proofs.lemmas.Result.{on_ok_weaker}
use Rattle.trees.proofs.MakingLaws.{when_continues, choose_continues}
use Rattle.trees.proofs.tree_stack.TreeStack.end_if.Goals as goal

pub returns-in-First-clause-ok : goal.returns-in-First-clause-ok
returns-in-First-clause-ok c =
    rw c.take_body-heading.ensures
    (on_ok_weaker c.add_statement.result
    (when_continues (record { heading = c.take_body-heading.result.0; statements = c.take_body-heading.result.1 })
    c.in-First.condition c.take_body-heading.new.self _ c.in-First.is)
    c.add_statement.ensures.ok)

pub returns-in-Second-clause-ok : goal.returns-in-Second-clause-ok
returns-in-Second-clause-ok c =
    rw c.take_body-heading.ensures
    (on_ok_weaker c.add_statement-in-Second.result
    (choose_continues (record { heading = c.take_body-heading.result.0; statements = c.take_body-heading.result.1 })
    c.in-Second.condition c.in-Second.first c.take_body-heading.new.self _
    c.in-Second.is) c.add_statement-in-Second.ensures.ok)
