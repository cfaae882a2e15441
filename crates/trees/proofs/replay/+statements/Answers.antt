use Rattle.std.proofs.Common.{[], ◌∷◌, ◌++◌, ◌≡◌, take, sym, subst, arith}
use Rattle.std.proofs.lemmas.List.{take_all}
use Rattle.std.proofs.lemmas.Result.{on_ok_weaker}
use Rattle.grammar.specs.declared.actions.Action.TheVariants.{BeginWhile, Chop, ElsePart, EndIf, EndWhile, GiveBack}
use Rattle.grammar.specs.declared.actions.Action.TheVariants.{IfTest, WhileTest}
use Rattle.grammar.specs.Actions.{body_actions, expr_actions}
use Rattle.grammar.specs.Building.{AppendsAll, MayFollowAll}
use Rattle.trees.specs.Trees.{body_tree, expr_tree}
use Rattle.trees.specs.declared.tree.Statement.{the_lemmas}
use Rattle.trees.proofs.ReplayLaws.{actions-ExpressionStatement, actions-IfElseStatement, actions-IfStatement, actions-Return, actions-While, may_next, statement_may, statements_more}
use Rattle.trees.proofs.replay.+statements.Goals as goal
use Rattle.grammar.proofs.RepresentationLaws.{appends_both, appends_none, may_first, may_front, may_then}

-- Expressions whose value is dropped.

pub report_statement-report_expr-requires : goal.report_statement-report_expr-requires
report_statement-report_expr-requires g t c =
    may_front _ _ (Chop ∷ [])
    (subst (MayFollowAll (g.B.Build.stands c.args.build.now))
    (actions-ExpressionStatement _ _ c.in-ExpressionStatement.is) c.requires)

pub report_statement-act-requires-in-ExpressionStatement : goal.report_statement-act-requires-in-ExpressionStatement
report_statement-act-requires-in-ExpressionStatement g t c =
    let at = g.B.Build.stands in
    let whole =
    subst (MayFollowAll (at c.args.build.now)) (actions-ExpressionStatement _ _ c.in-ExpressionStatement.is)
    c.requires in
    record {
      follows =
          may_first _ _ _
          (may_then _ (at c.report_expr.new.build) _ _ c.in_ok-report_expr-in-ExpressionStatement.ensures.ok whole);
    }

pub report_statement-returns-in_ok-report_expr-in-ExpressionStatement-clause-ok :
    goal.report_statement-returns-in_ok-report_expr-in-ExpressionStatement-clause-ok
report_statement-returns-in_ok-report_expr-in-ExpressionStatement-clause-ok g t c =
    let at = g.B.Build.stands in
    let first = at c.args.build.now in
    let last = at c.act-in-ExpressionStatement.new.self in
    on_ok_weaker _
    (λ dropped. subst (AppendsAll first last) (sym (actions-ExpressionStatement _ _ c.in-ExpressionStatement.is))
    (appends_both first (at c.report_expr.new.build) last _ (Chop ∷ [])
    c.in_ok-report_expr-in-ExpressionStatement.ensures.ok dropped)) c.act-in-ExpressionStatement.ensures.ok

-- Ifs without a second branch.

pub report_statement-tell_test-requires : goal.report_statement-tell_test-requires
report_statement-tell_test-requires g t c =
    may_front _ _ _
    (subst (MayFollowAll (g.B.Build.stands c.args.build.now)) (actions-IfStatement _ _ _ c.in-IfStatement.is)
    c.requires)

pub report_statement-tell_statements-requires : goal.report_statement-tell_statements-requires
report_statement-tell_statements-requires g t c κs within =
    let at = g.B.Build.stands in
    let whole = subst (MayFollowAll (at c.args.build.now)) (actions-IfStatement _ _ _ c.in-IfStatement.is) c.requires in
    let rest =
    may_then _ (at c.tell_test.new.build) (expr_actions (expr_tree c.in-IfStatement.condition) ++ IfTest ∷ []) _
    c.in_ok-tell_test-in-IfStatement.ensures.ok whole in
    let may : MayFollowAll (at c.tell_test.new.build) (body_actions (body_tree c.deref.result.now)) =
    rw c.deref.ensures.value (may_front _ _ _ rest) in
    (grind (arith, the_lemmas), (within, may))

pub report_statement-act-requires : goal.report_statement-act-requires
report_statement-act-requires g t c =
    let at = g.B.Build.stands in
    let whole = subst (MayFollowAll (at c.args.build.now)) (actions-IfStatement _ _ _ c.in-IfStatement.is) c.requires in
    let rest =
    may_then _ (at c.tell_test.new.build) (expr_actions (expr_tree c.in-IfStatement.condition) ++ IfTest ∷ []) _
    c.in_ok-tell_test-in-IfStatement.ensures.ok whole in
    let told : AppendsAll (at c.tell_test.new.build) (at c.tell_statements.new.build)
    (body_actions (body_tree c.in-IfStatement.branch.items)) =
    rw c.deref.ensures.value at c.in_ok-tell_statements-in-IfStatement.ensures.ok in
    record { follows = may_first _ _ _ (may_then _ (at c.tell_statements.new.build) _ _ told rest) }

pub report_statement-returns-in_ok-tell_statements-in-IfStatement-clause-ok :
    goal.report_statement-returns-in_ok-tell_statements-in-IfStatement-clause-ok
report_statement-returns-in_ok-tell_statements-in-IfStatement-clause-ok g t c =
    let at = g.B.Build.stands in
    let first = at c.args.build.now in
    let second = at c.tell_test.new.build in
    let third = at c.tell_statements.new.build in
    let last = at c.act.new.self in
    let told : AppendsAll second third (body_actions (body_tree c.in-IfStatement.branch.items)) =
    rw c.deref.ensures.value at c.in_ok-tell_statements-in-IfStatement.ensures.ok in
    on_ok_weaker _ (λ ended. subst (AppendsAll first last) (sym (actions-IfStatement _ _ _ c.in-IfStatement.is))
    (appends_both first second last _ _ c.in_ok-tell_test-in-IfStatement.ensures.ok
    (appends_both second third last _ (EndIf ∷ []) told ended))) c.act.ensures.ok

-- Ifs with both branches.

pub report_statement-tell_test-requires-in-IfElseStatement : goal.report_statement-tell_test-requires-in-IfElseStatement
report_statement-tell_test-requires-in-IfElseStatement g t c =
    may_front _ _ _
    (subst (MayFollowAll (g.B.Build.stands c.args.build.now))
    (actions-IfElseStatement _ _ _ _ c.in-IfElseStatement.is) c.requires)

pub report_statement-tell_statements-requires-in-IfElseStatement :
    goal.report_statement-tell_statements-requires-in-IfElseStatement
report_statement-tell_statements-requires-in-IfElseStatement g t c κs within =
    let at = g.B.Build.stands in
    let whole =
    subst (MayFollowAll (at c.args.build.now)) (actions-IfElseStatement _ _ _ _ c.in-IfElseStatement.is) c.requires in
    let rest =
    may_then _ (at c.tell_test-in-IfElseStatement.new.build)
    (expr_actions (expr_tree c.in-IfElseStatement.condition) ++ IfTest ∷ []) _
    c.in_ok-tell_test-in-IfElseStatement.ensures.ok whole in
    let may : MayFollowAll (at c.tell_test-in-IfElseStatement.new.build)
    (body_actions (body_tree c.deref-in-IfElseStatement.result.now)) =
    rw c.deref-in-IfElseStatement.ensures.value (may_front _ _ _ rest) in
    (grind (arith, the_lemmas), (within, may))

pub report_statement-act-requires-in-IfElseStatement : goal.report_statement-act-requires-in-IfElseStatement
report_statement-act-requires-in-IfElseStatement g t c =
    let at = g.B.Build.stands in
    let whole =
    subst (MayFollowAll (at c.args.build.now)) (actions-IfElseStatement _ _ _ _ c.in-IfElseStatement.is) c.requires in
    let rest =
    may_then _ (at c.tell_test-in-IfElseStatement.new.build)
    (expr_actions (expr_tree c.in-IfElseStatement.condition) ++ IfTest ∷ []) _
    c.in_ok-tell_test-in-IfElseStatement.ensures.ok whole in
    let one : AppendsAll (at c.tell_test-in-IfElseStatement.new.build)
    (at c.tell_statements-in-IfElseStatement.new.build)
    (body_actions (body_tree c.in-IfElseStatement.first.items)) =
    rw c.deref-in-IfElseStatement.ensures.value at c.in_ok-tell_statements-in-IfElseStatement.ensures.ok in
    record { follows = may_first _ _ _ (may_then _ (at c.tell_statements-in-IfElseStatement.new.build) _ _ one rest) }

pub report_statement-tell_statements-requires-in-IfElseStatement-2 :
    goal.report_statement-tell_statements-requires-in-IfElseStatement-2
report_statement-tell_statements-requires-in-IfElseStatement-2 g t c κs within =
    let at = g.B.Build.stands in
    let whole =
    subst (MayFollowAll (at c.args.build.now)) (actions-IfElseStatement _ _ _ _ c.in-IfElseStatement.is) c.requires in
    let rest =
    may_then _ (at c.tell_test-in-IfElseStatement.new.build)
    (expr_actions (expr_tree c.in-IfElseStatement.condition) ++ IfTest ∷ []) _
    c.in_ok-tell_test-in-IfElseStatement.ensures.ok whole in
    let one : AppendsAll (at c.tell_test-in-IfElseStatement.new.build)
    (at c.tell_statements-in-IfElseStatement.new.build)
    (body_actions (body_tree c.in-IfElseStatement.first.items)) =
    rw c.deref-in-IfElseStatement.ensures.value at c.in_ok-tell_statements-in-IfElseStatement.ensures.ok in
    let other =
    may_next _ (at c.act-in-IfElseStatement.new.self) ElsePart _ c.in_ok-act-in-IfElseStatement.ensures.ok
    (may_then _ (at c.tell_statements-in-IfElseStatement.new.build) _ _ one rest) in
    let may : MayFollowAll (at c.act-in-IfElseStatement.new.self)
    (body_actions (body_tree c.deref-in-IfElseStatement-2.result.now))
    =
    rw c.deref-in-IfElseStatement-2.ensures.value (may_front _ _ _ other) in
    (grind (arith, the_lemmas), (within, may))

pub report_statement-act-requires-in-IfElseStatement-2 : goal.report_statement-act-requires-in-IfElseStatement-2
report_statement-act-requires-in-IfElseStatement-2 g t c =
    let at = g.B.Build.stands in
    let whole =
    subst (MayFollowAll (at c.args.build.now)) (actions-IfElseStatement _ _ _ _ c.in-IfElseStatement.is) c.requires in
    let rest =
    may_then _ (at c.tell_test-in-IfElseStatement.new.build)
    (expr_actions (expr_tree c.in-IfElseStatement.condition) ++ IfTest ∷ []) _
    c.in_ok-tell_test-in-IfElseStatement.ensures.ok whole in
    let one : AppendsAll (at c.tell_test-in-IfElseStatement.new.build)
    (at c.tell_statements-in-IfElseStatement.new.build)
    (body_actions (body_tree c.in-IfElseStatement.first.items)) =
    rw c.deref-in-IfElseStatement.ensures.value at c.in_ok-tell_statements-in-IfElseStatement.ensures.ok in
    let other =
    may_next _ (at c.act-in-IfElseStatement.new.self) ElsePart _ c.in_ok-act-in-IfElseStatement.ensures.ok
    (may_then _ (at c.tell_statements-in-IfElseStatement.new.build) _ _ one rest) in
    let two : AppendsAll (at c.act-in-IfElseStatement.new.self) (at c.tell_statements-in-IfElseStatement-2.new.build)
    (body_actions (body_tree c.in-IfElseStatement.second.items)) =
    rw c.deref-in-IfElseStatement-2.ensures.value at c.in_ok-tell_statements-in-IfElseStatement-2.ensures.ok in
    record
    { follows = may_first _ _ _ (may_then _ (at c.tell_statements-in-IfElseStatement-2.new.build) _ _ two other) }

pub report_statement-returns-in_ok-tell_statements-in-IfElseStatement-2-clause-ok :
    goal.report_statement-returns-in_ok-tell_statements-in-IfElseStatement-2-clause-ok
report_statement-returns-in_ok-tell_statements-in-IfElseStatement-2-clause-ok g t c =
    let at = g.B.Build.stands in
    let first = at c.args.build.now in
    let second = at c.tell_test-in-IfElseStatement.new.build in
    let third = at c.tell_statements-in-IfElseStatement.new.build in
    let fourth = at c.act-in-IfElseStatement.new.self in
    let fifth = at c.tell_statements-in-IfElseStatement-2.new.build in
    let last = at c.act-in-IfElseStatement-2.new.self in
    let one : AppendsAll (at c.tell_test-in-IfElseStatement.new.build)
    (at c.tell_statements-in-IfElseStatement.new.build)
    (body_actions (body_tree c.in-IfElseStatement.first.items)) =
    rw c.deref-in-IfElseStatement.ensures.value at c.in_ok-tell_statements-in-IfElseStatement.ensures.ok in
    let two : AppendsAll (at c.act-in-IfElseStatement.new.self) (at c.tell_statements-in-IfElseStatement-2.new.build)
    (body_actions (body_tree c.in-IfElseStatement.second.items)) =
    rw c.deref-in-IfElseStatement-2.ensures.value at c.in_ok-tell_statements-in-IfElseStatement-2.ensures.ok in
    on_ok_weaker _ (λ ended. subst (AppendsAll first last)
    (sym (actions-IfElseStatement _ _ _ _ c.in-IfElseStatement.is))
    (appends_both first second last _ _ c.in_ok-tell_test-in-IfElseStatement.ensures.ok (appends_both second third last
    _ _ one
    (appends_both third fourth last (ElsePart ∷ []) _ c.in_ok-act-in-IfElseStatement.ensures.ok
    (appends_both fourth fifth last _ (EndIf ∷ []) two ended))))) c.act-in-IfElseStatement-2.ensures.ok

-- Loops.

pub report_statement-tell_loop_test-requires : goal.report_statement-tell_loop_test-requires
report_statement-tell_loop_test-requires g t c =
    may_front _ _ _
    (subst (MayFollowAll (g.B.Build.stands c.args.build.now)) (actions-While _ _ _ c.in-While.is) c.requires)

pub report_statement-tell_statements-requires-in-While : goal.report_statement-tell_statements-requires-in-While
report_statement-tell_statements-requires-in-While g t c κs within =
    let at = g.B.Build.stands in
    let whole = subst (MayFollowAll (at c.args.build.now)) (actions-While _ _ _ c.in-While.is) c.requires in
    let rest =
    may_then _ (at c.tell_loop_test.new.build)
    (BeginWhile ∷ (expr_actions (expr_tree c.in-While.condition) ++ WhileTest ∷ [])) _
    c.in_ok-tell_loop_test-in-While.ensures.ok whole in
    let may : MayFollowAll (at c.tell_loop_test.new.build) (body_actions (body_tree c.deref-in-While.result.now)) =
    rw c.deref-in-While.ensures.value (may_front _ _ _ rest) in
    (grind (arith, the_lemmas), (within, may))

pub report_statement-act-requires-in-While : goal.report_statement-act-requires-in-While
report_statement-act-requires-in-While g t c =
    let at = g.B.Build.stands in
    let whole = subst (MayFollowAll (at c.args.build.now)) (actions-While _ _ _ c.in-While.is) c.requires in
    let rest =
    may_then _ (at c.tell_loop_test.new.build)
    (BeginWhile ∷ (expr_actions (expr_tree c.in-While.condition) ++ WhileTest ∷ [])) _
    c.in_ok-tell_loop_test-in-While.ensures.ok whole in
    let told : AppendsAll (at c.tell_loop_test.new.build) (at c.tell_statements-in-While.new.build)
    (body_actions (body_tree c.in-While.body.items)) =
    rw c.deref-in-While.ensures.value at c.in_ok-tell_statements-in-While.ensures.ok in
    record { follows = may_first _ _ _ (may_then _ (at c.tell_statements-in-While.new.build) _ _ told rest) }

pub report_statement-returns-in_ok-tell_statements-in-While-clause-ok :
    goal.report_statement-returns-in_ok-tell_statements-in-While-clause-ok
report_statement-returns-in_ok-tell_statements-in-While-clause-ok g t c =
    let at = g.B.Build.stands in
    let first = at c.args.build.now in
    let second = at c.tell_loop_test.new.build in
    let third = at c.tell_statements-in-While.new.build in
    let last = at c.act-in-While.new.self in
    let told : AppendsAll second third (body_actions (body_tree c.in-While.body.items)) =
    rw c.deref-in-While.ensures.value at c.in_ok-tell_statements-in-While.ensures.ok in
    on_ok_weaker _ (λ ended. subst (AppendsAll first last) (sym (actions-While _ _ _ c.in-While.is))
    (appends_both first second last _ _ c.in_ok-tell_loop_test-in-While.ensures.ok
    (appends_both second third last _ (EndWhile ∷ []) told ended))) c.act-in-While.ensures.ok

-- Returns.

pub report_statement-report_expr-requires-in-Return : goal.report_statement-report_expr-requires-in-Return
report_statement-report_expr-requires-in-Return g t c =
    may_front _ _ (GiveBack ∷ [])
    (subst (MayFollowAll (g.B.Build.stands c.args.build.now))
    (actions-Return _ _ c.in-Return.is) c.requires)

pub report_statement-act-requires-in-Return : goal.report_statement-act-requires-in-Return
report_statement-act-requires-in-Return g t c =
    let at = g.B.Build.stands in
    let whole =
    subst (MayFollowAll (at c.args.build.now)) (actions-Return _ _ c.in-Return.is)
    c.requires in
    record {
      follows =
          may_first _ _ _
          (may_then _ (at c.report_expr-in-Return.new.build) _ _ c.in_ok-report_expr-in-Return.ensures.ok whole);
    }

pub report_statement-returns-in_ok-report_expr-in-Return-clause-ok :
    goal.report_statement-returns-in_ok-report_expr-in-Return-clause-ok
report_statement-returns-in_ok-report_expr-in-Return-clause-ok g t c =
    let at = g.B.Build.stands in
    let first = at c.args.build.now in
    let last = at c.act-in-Return.new.self in
    on_ok_weaker _
    (λ returned. subst (AppendsAll first last) (sym (actions-Return _ _ c.in-Return.is))
    (appends_both first (at c.report_expr-in-Return.new.build) last _ (GiveBack ∷ [])
    c.in_ok-report_expr-in-Return.ensures.ok returned)) c.act-in-Return.ensures.ok

-- Rows of statements.

pub tell_statements-loop-statement-init : goal.tell_statements-loop-statement-init
tell_statements-loop-statement-init g t c = appends_none (g.B.Build.stands c.args.build.now)

pub tell_statements-report_statement-requires : goal.tell_statements-report_statement-requires
tell_statements-report_statement-requires g t c κs within =
    let at = g.B.Build.stands in
    let may =
    statement_may (at c.args.build.now) (at c.loop-statement.build) c.loop-statement.statement-index
    c.args.statements.now c.statement-item.result c.loop-statement-test.true c.statement-item.is
    c.loop-statement.invariant c.requires in
    (grind (arith, the_lemmas), (within, may))

pub tell_statements-loop-statement-preserved : goal.tell_statements-loop-statement-preserved
tell_statements-loop-statement-preserved g t c =
    let at = g.B.Build.stands in
    statements_more (at c.args.build.now) (at c.loop-statement.build) (at c.report_statement.new.build)
    c.loop-statement.statement-index c.args.statements.now c.statement-item.result c.loop-statement-test.true
    c.statement-item.is c.loop-statement.invariant c.in_ok-report_statement.ensures.ok

pub tell_statements-returns-clause-ok : goal.tell_statements-returns-clause-ok
tell_statements-returns-clause-ok g t c =
    let at = g.B.Build.stands in
    let all : take c.loop-statement.statement-index c.args.statements.now ≡ c.args.statements.now =
    take_all c.loop-statement.statement-index c.args.statements.now (omega arith) in
    subst (λ ss. AppendsAll (at c.args.build.now) (at c.loop-statement.build) (body_actions (body_tree ss))) all
    c.loop-statement.invariant
