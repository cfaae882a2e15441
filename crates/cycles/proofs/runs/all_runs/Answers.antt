use Rattle.std.proofs.Common.{◌≡◌, ap, arith, get_or, length}
use Rattle.trees.specs.declared.tree.Function.{Function}
use Rattle.cycles.proofs.Rows.{runs_more}
use Rattle.cycles.proofs.runs.all_runs.Goals as goal

pub loop-function-preserved : goal.loop-function-preserved
loop-function-preserved c =
    let fs = c.args.maker.now.functions in
    let f : Function = c.function-item.result in
    let i = c.loop-function.function-index in
    let listed = c.functions-function-items.ensures in
    let is : f ≡ get_or fs i f = cc in
    runs_more c.args.cycles.now c.args.questions.now c.loop-function.rows.items c.push.new.self.items fs i f
    c.run.result c.run-in-loop-function.result (omega (arith, ap (λ fs. length fs) listed)) is c.run.ensures
    c.run-in-loop-function.ensures
    c.loop-function.invariant c.in_ok-push.ensures.items
