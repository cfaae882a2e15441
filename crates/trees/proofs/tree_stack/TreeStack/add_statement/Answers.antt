use Rattle.std.proofs.Common.{refl}
use Rattle.std.proofs.lemmas.Result.{on_ok_weaker}
use Rattle.trees.proofs.tree_stack.TreeStack.add_statement.Goals as goal

pub returns-clause-ok : goal.returns-clause-ok
returns-clause-ok c =
    on_ok_weaker c.open_item.result
    (λ is. record {
      body = _;
      longer = _;
      rest = c.take_body-heading.new.self;
      was = c.take_body-heading.ensures;
      is = is;
      heading = refl;
      adds = c.in_ok-push_or_refuse.ensures.ok;
    }) c.open_item.ensures.ok
