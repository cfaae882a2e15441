use Rattle.std.proofs.Common.{refl}
use Rattle.std.proofs.lemmas.Result.{on_ok_weaker}
use Rattle.trees.proofs.tree_stack.TreeStack.begin_body.Goals as goal

pub returns-clause-ok : goal.returns-clause-ok
returns-clause-ok c =
    on_ok_weaker c.open_item.result
    (λ is. record { body = _; is = is; heading = refl; empty = c.new-statements.ensures.items }) c.open_item.ensures.ok
