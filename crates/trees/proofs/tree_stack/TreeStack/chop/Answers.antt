use Rattle.std.proofs.Common.{sym, subst, ap, ◌∙◌, ◌∷◌}
use Rattle.std.proofs.lemmas.Result.{on_ok_weaker}
use Rattle.grammar.specs.declared.actions.Action.TheVariants.{Chop}
use Rattle.trees.specs.Opened.{Continues, IsAllowed}
use Rattle.trees.specs.declared.tree_stack.OpenItem.TheVariants.{Value}
use Rattle.trees.specs.declared.tree.Expr.TheVariants.{Assign, Postfix}
use Rattle.trees.proofs.MakingLaws.{alone_continues, postfix_continues}
use Rattle.trees.proofs.tree_stack.TreeStack.chop.Goals as goal

pub returns-then-not-ends_in_value-clause-ok : goal.returns-then-not-ends_in_value-clause-ok
returns-then-not-ends_in_value-clause-ok c =
    rw c.take_value-value.ensures
    (on_ok_weaker c.add_statement.result (alone_continues c.take_value-value.result c.take_value-value.new.self _)
    c.add_statement.ensures.ok)

pub returns-clause-ok : goal.returns-clause-ok
returns-clause-ok c =
    let op = c.in-Assign.op in
    let v = c.in-Assign.var in
    let step = Assign op v c.in-Assign.field-2 in
    let xs = c.take_value-value.new.self in
    let was = c.take_value-value.ensures ∙ ap (λ e. Value e ∷ xs) c.in-Assign.is in
    rw was
    (on_ok_weaker c.open_item.result
    (λ is. subst (λ ys. Continues Chop (Value step ∷ xs) ys)
    (sym (is ∙ ap (λ ys. Value (Postfix op v) ∷ ys) c.drop_innermost.ensures))
    (postfix_continues op v c.in-Assign.field-2 xs (cc) (subst (λ ys. IsAllowed Chop ys) was c.requires)))
    c.open_item.ensures.ok)
