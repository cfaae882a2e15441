use Rattle.std.proofs.Common.{◌≡◌, ap, arith, get_or, length}
use Rattle.trees.specs.declared.tree.Function.{Function}
use Rattle.cycles.proofs.Rows.{all_more}
use Rattle.cycles.proofs.loops.turns.Goals as goal

pub loop-function-preserved : goal.loop-function-preserved
loop-function-preserved c = λ a b known other.
    let fs = c.args.maker.now.functions in
    let f : Function = c.function-item.result in
    let i = c.loop-function.function-index in
    let listed = c.functions-function-items.ensures in
    let is : f ≡ get_or fs i f = cc in
    let added = rw c.deref.ensures.value at (c.in_ok-add_turns.ensures a b known other) in
    all_more c.args.cycles.now c.args.questions.now a b c.loop-function.turns.items c.add_turns.new.turns.items fs i f
    (omega (arith, ap (λ fs. length fs) listed)) is (c.loop-function.invariant a b known other) added
