use Rattle.std.proofs.Common.{◌∙◌, subst, sym, ℕ}
use Rattle.trees.specs.Laws.{without_names}
use Rattle.trees.specs.Trees.{function_tree}
use Rattle.room.specs.Chains.{NeedsBy, only}
use Rattle.room.proofs.ChainLaws.{decided_so, left_more, left_none, number_told, undecided_so}
use Rattle.room.proofs.chains.decider.Goals as goal

pub returns-then-eq-clause-some : goal.returns-then-eq-clause-some
returns-then-eq-clause-some c = (
  number_told c.args.functions.now c.loop-callee.callee-index c.callee-item.result c.loop-callee-test.true
      c.callee-item.is,
  decided_so c.args.measure c.args.calls.now
      (without_names c.args.caller.now.number (function_tree c.args.caller.now))
      (only c.callee-item.result.number c.args.calls.now.needs) c.only-by_this.result c.function_need.result
      c.function_need-in-loop-callee.result c.of-need.result c.of.result c.only-by_this.ensures.short
      c.only-by_this.ensures.needs c.function_need.ensures c.of-need.ensures c.function_need-in-loop-callee.ensures
      c.of.ensures (sym c.if-eq.true ∙ c.eq.ensures),
)

pub loop-callee-preserved : goal.loop-callee-preserved
loop-callee-preserved c = λ j decides.
    let f = c.args.caller.now in
    let told = without_names f.number (function_tree f) in
    left_more c.args.functions.now c.loop-callee.callee-index j c.callee-item.result c.loop-callee-test.true
    c.callee-item.is
    (λ same.
    undecided_so c.args.measure c.args.calls.now told (only c.callee-item.result.number c.args.calls.now.needs)
    c.only-by_this.result c.function_need.result c.function_need-in-loop-callee.result c.of-need.result c.of.result
    c.only-by_this.ensures.short c.only-by_this.ensures.needs c.function_need.ensures c.of-need.ensures
    c.function_need-in-loop-callee.ensures c.of.ensures (sym c.if-eq.false ∙ c.eq.ensures)
    (subst (λ (k : ℕ). NeedsBy c.args.measure c.args.calls.now told k) same decides.1))
    (c.loop-callee.invariant j decides)

pub returns-clause-none : goal.returns-clause-none
returns-clause-none c = λ none j decides.
    left_none c.args.functions.now c.loop-callee.callee-index j c.loop-callee-test.false
    (c.loop-callee.invariant j decides)
