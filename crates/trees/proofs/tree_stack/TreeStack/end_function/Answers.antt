use Rattle.std.proofs.Common.{subst}
use Rattle.grammar.specs.declared.actions.Action.TheVariants.{EndFunction}
use Rattle.trees.specs.Opened.{IsAllowed}
use Rattle.trees.proofs.MakingLaws.{function_ends}
use Rattle.trees.proofs.tree_stack.TreeStack.end_function.Goals as goal

pub returns : goal.returns
returns c =
    let was = c.take_body-heading.ensures in
    let allowed = subst (λ xs. IsAllowed (EndFunction c.args.variables) xs) was c.requires in
    rw was
    (function_ends (record { heading = c.take_body-heading.result.0; statements = c.take_body-heading.result.1 })
    c.in-Function.number c.in-Function.parameters c.args.variables
    c.leave_last.new.statements c.take_body-heading.new.self c.in-Function.is allowed c.leave_last.ensures)
