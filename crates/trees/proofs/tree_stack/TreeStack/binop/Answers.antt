use Rattle.std.proofs.Common.{sym, subst, ◌∷◌}
use Rattle.std.proofs.lemmas.Result.{on_ok_weaker}
use Rattle.grammar.specs.declared.actions.Action.TheVariants.{ApplyBinop}
use Rattle.trees.specs.Opened.{Continues, IsAllowed}
use Rattle.trees.specs.declared.tree_stack.OpenItem.TheVariants.{Value}
use Rattle.trees.proofs.MakingLaws.{left_allowed, binop_continues}
use Rattle.trees.proofs.tree_stack.TreeStack.binop.Goals as goal

pub take_left_side-left-requires : goal.take_left_side-left-requires
take_left_side-left-requires c =
    left_allowed c.args.op c.take_value-right.result c.take_value-right.new.self
    (subst (λ xs. IsAllowed (ApplyBinop c.args.op) xs) c.take_value-right.ensures c.requires)

pub returns-clause-ok : goal.returns-clause-ok
returns-clause-ok c =
    let op = c.args.op in
    let was = c.take_value-right.ensures in
    let left = c.in_ok-left.ensures in
    let right = c.in_ok-right.ensures in
    let allowed = subst (λ xs. IsAllowed (ApplyBinop op) xs) was c.requires in
    rw was
    (on_ok_weaker c.open_item.result
    (λ is. subst (λ ys. Continues (ApplyBinop op) (Value c.take_value-right.result ∷ c.take_value-right.new.self) ys)
    (sym is)
    (binop_continues op c.take_value-right.result c.take_left_side-left.result c.in_ok-left.left c.in_ok-right.right
    c.take_value-right.new.self c.take_left_side-left.new.self allowed c.take_left_side-left.ensures left.ok right.ok))
    c.open_item.ensures.ok)
