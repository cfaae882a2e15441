use Rattle.std.proofs.Common.{◌∙◌, ap, map, sym}
use Rattle.trees.specs.Trees.{arguments, expr_tree}
use Rattle.cycles.specs.Expressions.{arguments_span, callee_span, cycle}
use Rattle.cycles.specs.Spans.{◌⊕◌}
use Rattle.cycles.specs.Told.{told}
use Rattle.cycles.proofs.TreeSpans.{span-Call}
use Rattle.cycles.proofs.runs.Runs.+expressions.Goals as goal

pub expression-returns-in-Call : goal.expression-returns-in-Call
expression-returns-in-Call t c = λ runs known.
    let u = c.args.self.now.counted in
    let p = c.args.self.now.profile in
    let given = rw c.deref-in-Call.ensures.value at (c.arguments-arguments.ensures runs known) in
    let first = arguments_span u p runs (arguments (map expr_tree c.in-Call.arguments.items)) in
    let second = callee_span u p runs c.in-Call.callee in
    c.plus-in-Call-2.ensures (cycle u) (first ⊕ second) c.cycle-cycle.ensures
    (c.plus-in-Call.ensures first second given (c.callee.ensures runs known))
    ∙ ap told (sym (span-Call u p runs c.args.expr.now c.in-Call.callee c.in-Call.arguments c.in-Call.is))
