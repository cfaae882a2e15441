use Rattle.std.proofs.Common.{sym, subst, ap, ◌∙◌, ◌∷◌}
use Rattle.std.proofs.lemmas.Result.{on_ok_weaker}
use Rattle.grammar.specs.declared.actions.Action.TheVariants.{EndCall}
use Rattle.trees.specs.Opened.{Continues}
use Rattle.trees.specs.declared.tree_stack.OpenItem.TheVariants.{Value}
use Rattle.trees.specs.declared.tree.Expr.TheVariants.{Call}
use Rattle.trees.proofs.MakingLaws.{call_continues}
use Rattle.trees.proofs.tree_stack.TreeStack.end_call.Goals as goal

pub returns-clause-ok : goal.returns-clause-ok
returns-clause-ok c =
    let made = c.in_ok-arguments.ensures in
    let call = Value (Call c.args.callee c.in_ok-arguments.arguments) in
    on_ok_weaker c.open_item.result
    (λ is. subst (λ ys. Continues (EndCall c.args.callee) c.args.self.now ys)
    (sym (is ∙ ap (λ ys. call ∷ ys) made.below))
    (call_continues c.args.callee c.in_ok-arguments.arguments c.args.self.now made.arguments c.requires))
    c.open_item.ensures.ok
