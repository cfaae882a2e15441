use Rattle.std.proofs.lemmas.Result.{on_ok_weaker}
use Rattle.trees.proofs.MakingLaws.{return_continues}
use Rattle.trees.proofs.tree_stack.TreeStack.give_back.Goals as goal

pub returns-clause-ok : goal.returns-clause-ok
returns-clause-ok c =
    rw c.take_value-value.ensures
    (on_ok_weaker c.add_statement.result (return_continues c.take_value-value.result c.take_value-value.new.self _)
    c.add_statement.ensures.ok)
