use Rattle.std.proofs.Common.{[], ◌∷◌, sym, subst}
use Rattle.std.proofs.lemmas.Result.{on_ok_weaker}
use Rattle.grammar.specs.declared.actions.Action.TheVariants.{BeginFunction, EndFunction}
use Rattle.grammar.specs.Actions.{body_actions, last_return}
use Rattle.grammar.specs.Building.{AppendsAll, MayFollowAll}
use Rattle.trees.specs.Replaying.{IsOverWith}
use Rattle.trees.specs.Trees.{body_tree}
use Rattle.trees.proofs.ReplayLaws.{actions-Function, may_next, over_finish, over_then}
use Rattle.trees.proofs.replay.report_function.Goals as goal
use Rattle.grammar.proofs.Judging.{measured_over}
use Rattle.grammar.proofs.RepresentationLaws.{appends_both, may_first, may_front, may_then}

pub act-requires : goal.act-requires
act-requires g c = record { follows = may_first _ _ _ c.requires }

pub tell_statements-requires : goal.tell_statements-requires
tell_statements-requires g c =
    let at = g.B.Build.stands in
    let whole = subst (MayFollowAll (at c.args.build.now)) (actions-Function c.args.function.now) c.requires in
    let inside =
    may_next _ (at c.act.new.self)
    (BeginFunction c.args.function.now.number c.args.function.now.parameters) _ c.in_ok-act.ensures.ok
    whole in
    rw c.deref.ensures.value (may_front _ _ _ inside)

pub tell_last_return-requires : goal.tell_last_return-requires
tell_last_return-requires g c =
    let at = g.B.Build.stands in
    let whole = subst (MayFollowAll (at c.args.build.now)) (actions-Function c.args.function.now) c.requires in
    let inside =
    may_next _ (at c.act.new.self)
    (BeginFunction c.args.function.now.number c.args.function.now.parameters) _ c.in_ok-act.ensures.ok
    whole in
    let told : AppendsAll (at c.act.new.self) (at c.tell_statements.new.build)
    (body_actions (body_tree c.args.function.now.body.items)) =
    rw c.deref.ensures.value at c.in_ok-tell_statements.ensures.ok in
    may_front _ last_return _ (may_then _ (at c.tell_statements.new.build) _ _ told inside)

pub returns-clause-ok : goal.returns-clause-ok
returns-clause-ok g c =
    let at = g.B.Build.stands in
    let first = at c.args.build.now in
    let second = at c.act.new.self in
    let third = at c.tell_statements.new.build in
    let fourth = at c.tell_last_return.new.build in
    let last = at c.act-2.new.self in
    let told : AppendsAll second third (body_actions (body_tree c.args.function.now.body.items)) =
    rw c.deref.ensures.value at c.in_ok-tell_statements.ensures.ok in
    on_ok_weaker _ (λ ended. subst (AppendsAll first last) (sym (actions-Function c.args.function.now))
    (appends_both first second last (BeginFunction c.args.function.now.number c.args.function.now.parameters ∷ []) _
    c.in_ok-act.ensures.ok (appends_both second third last _ _ told
    (appends_both third fourth last last_return (EndFunction c.args.function.now.variables ∷ [])
    c.in_ok-tell_last_return.ensures.ok ended)))) c.act-2.ensures.ok

pub returns-clause-full : goal.returns-clause-full
returns-clause-full g c =
    let at = g.B.Build.stands in
    let first = at c.args.build.now in
    let second = at c.act.new.self in
    let third = at c.tell_statements.new.build in
    let fourth = at c.tell_last_return.new.build in
    let told : AppendsAll second third (body_actions (body_tree c.args.function.now.body.items)) =
    rw c.deref.ensures.value at c.in_ok-tell_statements.ensures.ok in
    λ full. subst (IsOverWith first) (sym (actions-Function c.args.function.now))
    (over_then first second (BeginFunction c.args.function.now.number c.args.function.now.parameters ∷ []) _
    c.in_ok-act.ensures.ok (over_then second third _ _ told
    (over_then third fourth last_return _ c.in_ok-tell_last_return.ensures.ok
    (over_finish fourth c.args.function.now.variables
    (measured_over c.act-2.result g.B.Build.denied (at c.tell_last_return.new.build) c.act-2.ensures.judged
    full)))))
