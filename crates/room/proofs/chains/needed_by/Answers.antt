use Rattle.std.proofs.Common.{◌∙◌, ap, inl, inr, refl, replicate, sym, Option}
use Rattle.trees.specs.Laws.{without_names}
use Rattle.trees.specs.Trees.{function_tree}
use Rattle.room.specs.declared.room.Room.{Room}
use Rattle.room.specs.Chains.{unburdened}
use Rattle.room.proofs.ChainLaws.{decided_so, if_some, undecided_so}
use Rattle.room.proofs.chains.needed_by.Goals as goal

pub returns-then-eq-clause-none : goal.returns-then-eq-clause-none
returns-then-eq-clause-none c = λ none.
    inl (decided_so c.args.measure c.args.calls.now
    (without_names c.args.caller.now.number (function_tree c.args.caller.now)) unburdened _ c.function_need.result
    c.function_need-2.result c.of-need.result c.of.result refl
    (ap (λ (r : Option Room). replicate 256 r) c.words.ensures) c.function_need.ensures c.of-need.ensures
    c.function_need-2.ensures c.of.ensures (sym c.if-eq.true ∙ c.eq.ensures))

pub returns-clause-less : goal.returns-clause-less
returns-clause-less c =
    if_some c.decider.result
    (undecided_so c.args.measure c.args.calls.now
    (without_names c.args.caller.now.number (function_tree c.args.caller.now)) unburdened _ c.function_need.result
    c.function_need-2.result c.of-need.result c.of.result refl
    (ap (λ (r : Option Room). replicate 256 r) c.words.ensures) c.function_need.ensures c.of-need.ensures
    c.function_need-2.ensures c.of.ensures (sym c.if-eq.false ∙ c.eq.ensures))

pub returns-clause-none : goal.returns-clause-none
returns-clause-none c = λ none. inr (c.decider.ensures.none none)
