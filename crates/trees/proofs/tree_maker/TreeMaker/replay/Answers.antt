use Rattle.std.proofs.Common.{◌≡◌, ◌<◌, ◌≤◌, length, get_or, subst, take}
use Rattle.std.proofs.lemmas.List.{take_all}
use Rattle.std.proofs.lemmas.Result.{err_from_is_err_and}
use Rattle.grammar.specs.Building.{AppendsAll}
use Rattle.trees.specs.Trees.{made_actions}
use Rattle.trees.proofs.ReplayLaws.{appends_those, function_may, functions_more, may_replay, over_those}
use Rattle.trees.proofs.tree_maker.TreeMaker.replay.Goals as goal

pub report_function-requires : goal.report_function-requires
report_function-requires g c =
    let at = g.B.Build.stands in
    let below : c.loop-function.function-index < length c.args.self.now.functions =
    rw c.functions-function-items.ensures at c.loop-function-test.true in
    let is : c.function-item.result ≡
    get_or c.args.self.now.functions c.loop-function.function-index c.function-item.result =
    rw c.functions-function-items.ensures at c.function-item.is in
    function_may (at c.args.build.now) (at c.loop-function.build) c.loop-function.function-index
    c.args.self.now.functions c.function-item.result below is c.loop-function.invariant
    (may_replay c.args.self.now (at c.args.build.now) c.requires.closed c.requires.told_nothing)

pub loop-function-preserved : goal.loop-function-preserved
loop-function-preserved g c =
    let at = g.B.Build.stands in
    let below : c.loop-function.function-index < length c.args.self.now.functions =
    rw c.functions-function-items.ensures at c.loop-function-test.true in
    let is : c.function-item.result ≡
    get_or c.args.self.now.functions c.loop-function.function-index c.function-item.result =
    rw c.functions-function-items.ensures at c.function-item.is in
    functions_more (at c.args.build.now) (at c.loop-function.build) (at c.report_function.new.build)
    c.loop-function.function-index c.args.self.now.functions c.function-item.result below is
    c.loop-function.invariant c.in_ok-report_function.ensures.ok

pub returns-in_err-report_function-clause-full : goal.returns-in_err-report_function-clause-full
returns-in_err-report_function-clause-full g c =
    let at = g.B.Build.stands in
    let below : c.loop-function.function-index < length c.args.self.now.functions =
    rw c.functions-function-items.ensures at c.loop-function-test.true in
    let is : c.function-item.result ≡
    get_or c.args.self.now.functions c.loop-function.function-index c.function-item.result =
    rw c.functions-function-items.ensures at c.function-item.is in
    let p = err_from_is_err_and c.from_residual.result c.from_residual.ensures.1 in
    rw (p.1, p.2)
    (λ full. over_those c.args.self.now (at c.args.build.now) (at c.loop-function.build)
    c.loop-function.function-index c.function-item.result c.requires.closed below is c.loop-function.invariant
    (c.in_err-report_function.ensures.full full))

pub returns-clause-ok : goal.returns-clause-ok
returns-clause-ok g c =
    let at = g.B.Build.stands in
    let last : length c.args.self.now.functions ≤ c.loop-function.function-index =
    rw c.functions-function-items.ensures at c.loop-function-test.false in
    let all : take c.loop-function.function-index c.args.self.now.functions ≡ c.args.self.now.functions =
    take_all c.loop-function.function-index c.args.self.now.functions last in
    appends_those c.args.self.now (at c.args.build.now) (at c.loop-function.build) c.requires.closed
    (subst (λ fs. AppendsAll (at c.args.build.now) (at c.loop-function.build) (made_actions fs)) all
    c.loop-function.invariant)
