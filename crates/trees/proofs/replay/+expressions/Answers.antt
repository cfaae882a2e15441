use Rattle.std.proofs.Common.{[], ◌∷◌, ◌≡◌, map, take, sym, subst, arith}
use Rattle.std.proofs.lemmas.List.{take_all}
use Rattle.std.proofs.lemmas.Result.{on_ok_weaker}
use Rattle.grammar.specs.declared.actions.Action.TheVariants.{BeginCall, EndCall}
use Rattle.grammar.specs.Actions.{args_actions, expr_actions, middle}
use Rattle.grammar.specs.Building.{AppendsAll, MayFollowAll}
use Rattle.trees.specs.Trees.{arguments, expr_tree}
use Rattle.trees.specs.declared.tree.Expr.{the_lemmas}
use Rattle.trees.proofs.ReplayLaws.{actions-Assign, actions-Binary, actions-Call, argument_may, arguments_more, may_next}
use Rattle.trees.proofs.replay.+expressions.Goals as goal
use Rattle.grammar.proofs.RepresentationLaws.{appends_both, appends_none, may_first, may_front, may_then}

-- Operators with both sides.

pub report_expr-report_expr-requires : goal.report_expr-report_expr-requires
report_expr-report_expr-requires g t c κs within =
    let at = g.B.Build.stands in
    let whole = subst (MayFollowAll (at c.args.build.now)) (actions-Binary _ _ _ _ c.in-Binary.is) c.requires in
    let may : MayFollowAll (at c.args.build.now) (expr_actions (expr_tree c.deref.result.now)) =
    rw c.deref.ensures (may_front _ _ _ whole) in
    (grind (arith, the_lemmas), (within, may))

pub report_expr-report_middle-requires : goal.report_expr-report_middle-requires
report_expr-report_middle-requires g t c =
    let at = g.B.Build.stands in
    let whole = subst (MayFollowAll (at c.args.build.now)) (actions-Binary _ _ _ _ c.in-Binary.is) c.requires in
    let left : AppendsAll (at c.args.build.now) (at c.report_expr.new.build)
    (expr_actions (expr_tree c.in-Binary.left.value)) =
    rw c.deref.ensures at c.in_ok-report_expr-in-Binary.ensures.ok in
    may_front _ _ _ (may_then _ (at c.report_expr.new.build) _ _ left whole)

pub report_expr-report_expr-requires-in-Binary : goal.report_expr-report_expr-requires-in-Binary
report_expr-report_expr-requires-in-Binary g t c κs within =
    let at = g.B.Build.stands in
    let whole = subst (MayFollowAll (at c.args.build.now)) (actions-Binary _ _ _ _ c.in-Binary.is) c.requires in
    let left : AppendsAll (at c.args.build.now) (at c.report_expr.new.build)
    (expr_actions (expr_tree c.in-Binary.left.value)) =
    rw c.deref.ensures at c.in_ok-report_expr-in-Binary.ensures.ok in
    let rest =
    may_then _ (at c.report_middle.new.build) (middle c.in-Binary.op) _ c.in_ok-report_middle-in-Binary.ensures.ok
    (may_then _ (at c.report_expr.new.build) _ _ left whole) in
    let may : MayFollowAll (at c.report_middle.new.build) (expr_actions (expr_tree c.deref-in-Binary.result.now)) =
    rw c.deref-in-Binary.ensures (may_front _ _ _ rest) in
    (grind (arith, the_lemmas), (within, may))

pub report_expr-act-requires-in-Binary : goal.report_expr-act-requires-in-Binary
report_expr-act-requires-in-Binary g t c =
    let at = g.B.Build.stands in
    let whole = subst (MayFollowAll (at c.args.build.now)) (actions-Binary _ _ _ _ c.in-Binary.is) c.requires in
    let left : AppendsAll (at c.args.build.now) (at c.report_expr.new.build)
    (expr_actions (expr_tree c.in-Binary.left.value)) =
    rw c.deref.ensures at c.in_ok-report_expr-in-Binary.ensures.ok in
    let right : AppendsAll (at c.report_middle.new.build) (at c.report_expr-in-Binary.new.build)
    (expr_actions (expr_tree c.in-Binary.right.value)) =
    rw c.deref-in-Binary.ensures at c.in_ok-report_expr-in-Binary-2.ensures.ok in
    let rest =
    may_then _ (at c.report_middle.new.build) (middle c.in-Binary.op) _ c.in_ok-report_middle-in-Binary.ensures.ok
    (may_then _ (at c.report_expr.new.build) _ _ left whole) in
    record { follows = may_first _ _ _ (may_then _ (at c.report_expr-in-Binary.new.build) _ _ right rest) }

pub report_expr-returns-in_ok-report_expr-in-Binary-2-clause-ok :
    goal.report_expr-returns-in_ok-report_expr-in-Binary-2-clause-ok
report_expr-returns-in_ok-report_expr-in-Binary-2-clause-ok g t c =
    let at = g.B.Build.stands in
    let first = at c.args.build.now in
    let second = at c.report_expr.new.build in
    let third = at c.report_middle.new.build in
    let fourth = at c.report_expr-in-Binary.new.build in
    let last = at c.act-in-Binary.new.self in
    let left : AppendsAll first second (expr_actions (expr_tree c.in-Binary.left.value)) =
    rw c.deref.ensures at c.in_ok-report_expr-in-Binary.ensures.ok in
    let right : AppendsAll third fourth (expr_actions (expr_tree c.in-Binary.right.value)) =
    rw c.deref-in-Binary.ensures at c.in_ok-report_expr-in-Binary-2.ensures.ok in
    on_ok_weaker _ (λ applied. subst (AppendsAll first last) (sym (actions-Binary _ _ _ _ c.in-Binary.is))
    (appends_both first second last _ _ left
    (appends_both second third last _ _ c.in_ok-report_middle-in-Binary.ensures.ok
    (appends_both third fourth last _ _ right applied)))) c.act-in-Binary.ensures.ok

-- Assignments.

pub report_expr-report_expr-requires-in-Assign : goal.report_expr-report_expr-requires-in-Assign
report_expr-report_expr-requires-in-Assign g t c κs within =
    let at = g.B.Build.stands in
    let whole = subst (MayFollowAll (at c.args.build.now)) (actions-Assign _ _ _ _ c.in-Assign.is) c.requires in
    let may : MayFollowAll (at c.args.build.now) (expr_actions (expr_tree c.deref-in-Assign.result.now)) =
    rw c.deref-in-Assign.ensures (may_front _ _ _ whole) in
    (grind (arith, the_lemmas), (within, may))

pub report_expr-act-requires-in-Assign : goal.report_expr-act-requires-in-Assign
report_expr-act-requires-in-Assign g t c =
    let at = g.B.Build.stands in
    let whole = subst (MayFollowAll (at c.args.build.now)) (actions-Assign _ _ _ _ c.in-Assign.is) c.requires in
    let right : AppendsAll (at c.args.build.now) (at c.report_expr-in-Assign.new.build)
    (expr_actions (expr_tree c.in-Assign.right.value)) =
    rw c.deref-in-Assign.ensures at c.in_ok-report_expr-in-Assign.ensures.ok in
    record { follows = may_first _ _ _ (may_then _ (at c.report_expr-in-Assign.new.build) _ _ right whole) }

pub report_expr-returns-in_ok-report_expr-in-Assign-clause-ok :
    goal.report_expr-returns-in_ok-report_expr-in-Assign-clause-ok
report_expr-returns-in_ok-report_expr-in-Assign-clause-ok g t c =
    let at = g.B.Build.stands in
    let first = at c.args.build.now in
    let last = at c.act-in-Assign.new.self in
    let right : AppendsAll first (at c.report_expr-in-Assign.new.build)
    (expr_actions (expr_tree c.in-Assign.right.value))
    =
    rw c.deref-in-Assign.ensures at c.in_ok-report_expr-in-Assign.ensures.ok in
    on_ok_weaker _
    (λ stored. subst (AppendsAll first last) (sym (actions-Assign _ _ _ _ c.in-Assign.is))
    (appends_both first (at c.report_expr-in-Assign.new.build) last _ _ right stored)) c.act-in-Assign.ensures.ok

-- Calls.

pub report_expr-act-requires-in-Call : goal.report_expr-act-requires-in-Call
report_expr-act-requires-in-Call g t c =
    let at = g.B.Build.stands in
    record {
      follows =
          may_first _ _ _ (subst (MayFollowAll (at c.args.build.now)) (actions-Call _ _ _ c.in-Call.is) c.requires);
    }

pub report_expr-tell_arguments-requires : goal.report_expr-tell_arguments-requires
report_expr-tell_arguments-requires g t c κs within =
    let at = g.B.Build.stands in
    let whole = subst (MayFollowAll (at c.args.build.now)) (actions-Call _ _ _ c.in-Call.is) c.requires in
    let rest = may_next _ (at c.act-in-Call.new.self) BeginCall _ c.in_ok-act-in-Call.ensures.ok whole in
    let may : MayFollowAll (at c.act-in-Call.new.self)
    (args_actions (arguments (map expr_tree c.deref-in-Call.result.now))) =
    rw c.deref-in-Call.ensures.value (may_front _ _ _ rest) in
    (grind (arith, the_lemmas), (within, may))

pub report_expr-act-requires-in-Call-2 : goal.report_expr-act-requires-in-Call-2
report_expr-act-requires-in-Call-2 g t c =
    let at = g.B.Build.stands in
    let whole = subst (MayFollowAll (at c.args.build.now)) (actions-Call _ _ _ c.in-Call.is) c.requires in
    let told : AppendsAll (at c.act-in-Call.new.self) (at c.tell_arguments.new.build)
    (args_actions (arguments (map expr_tree c.in-Call.arguments.items))) =
    rw c.deref-in-Call.ensures.value at c.in_ok-tell_arguments-in-Call.ensures.ok in
    let rest = may_next _ (at c.act-in-Call.new.self) BeginCall _ c.in_ok-act-in-Call.ensures.ok whole in
    record { follows = may_first _ _ _ (may_then _ (at c.tell_arguments.new.build) _ _ told rest) }

pub report_expr-returns-in_ok-tell_arguments-in-Call-clause-ok :
    goal.report_expr-returns-in_ok-tell_arguments-in-Call-clause-ok
report_expr-returns-in_ok-tell_arguments-in-Call-clause-ok g t c =
    let at = g.B.Build.stands in
    let first = at c.args.build.now in
    let second = at c.act-in-Call.new.self in
    let third = at c.tell_arguments.new.build in
    let last = at c.act-in-Call-2.new.self in
    let told : AppendsAll second third (args_actions (arguments (map expr_tree c.in-Call.arguments.items))) =
    rw c.deref-in-Call.ensures.value at c.in_ok-tell_arguments-in-Call.ensures.ok in
    on_ok_weaker _ (λ ended. subst (AppendsAll first last) (sym (actions-Call _ _ _ c.in-Call.is))
    (appends_both first second last (BeginCall ∷ []) _ c.in_ok-act-in-Call.ensures.ok
    (appends_both second third last _ (EndCall c.in-Call.callee ∷ []) told ended))) c.act-in-Call-2.ensures.ok

-- Arguments.

pub tell_arguments-loop-expr-init : goal.tell_arguments-loop-expr-init
tell_arguments-loop-expr-init g t c = appends_none (g.B.Build.stands c.args.build.now)

pub tell_arguments-report_expr-requires : goal.tell_arguments-report_expr-requires
tell_arguments-report_expr-requires g t c κs within =
    let at = g.B.Build.stands in
    let may : MayFollowAll (at c.loop-expr.build) (expr_actions (expr_tree c.expr-item.result)) =
    argument_may (at c.args.build.now) (at c.loop-expr.build) c.loop-expr.expr-index c.args.exprs.now c.expr-item.result
    c.loop-expr-test.true c.expr-item.is c.loop-expr.invariant c.requires
    in
    (grind (arith, the_lemmas), (within, may))

pub tell_arguments-loop-expr-preserved : goal.tell_arguments-loop-expr-preserved
tell_arguments-loop-expr-preserved g t c =
    let at = g.B.Build.stands in
    arguments_more (at c.args.build.now) (at c.loop-expr.build) (at c.report_expr.new.build) c.loop-expr.expr-index
    c.args.exprs.now c.expr-item.result c.loop-expr-test.true c.expr-item.is c.loop-expr.invariant
    c.in_ok-report_expr.ensures.ok

pub tell_arguments-returns-clause-ok : goal.tell_arguments-returns-clause-ok
tell_arguments-returns-clause-ok g t c =
    let at = g.B.Build.stands in
    let all : take c.loop-expr.expr-index c.args.exprs.now ≡ c.args.exprs.now =
    take_all c.loop-expr.expr-index c.args.exprs.now (omega arith) in
    subst (λ es. AppendsAll (at c.args.build.now) (at c.loop-expr.build) (args_actions (arguments (map expr_tree es))))
    all c.loop-expr.invariant
