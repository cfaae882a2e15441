use Rattle.std.proofs.Common.{[], ◌∷◌}
use Rattle.std.proofs.lemmas.Result.{on_ok_weaker}
use Rattle.grammar.specs.declared.actions.Action.TheVariants.{IfTest}
use Rattle.grammar.specs.Actions.{expr_actions}
use Rattle.trees.specs.Trees.{expr_tree}
use Rattle.trees.proofs.replay.tell_test.Goals as goal
use Rattle.grammar.proofs.RepresentationLaws.{appends_both, may_first, may_front, may_then}

pub report_expr-requires : goal.report_expr-requires
report_expr-requires g c = may_front _ _ (IfTest ∷ []) c.requires

pub act-requires : goal.act-requires
act-requires g c =
    let at = g.B.Build.stands in
    record {
      follows =
          may_first _ _ _
          (may_then (at c.args.build.now) (at c.report_expr.new.build)
          (expr_actions (expr_tree c.args.condition.now)) _ c.in_ok-report_expr.ensures.ok c.requires);
    }

pub returns-clause-ok : goal.returns-clause-ok
returns-clause-ok g c =
    let at = g.B.Build.stands in
    on_ok_weaker _
    (appends_both (at c.args.build.now) (at c.report_expr.new.build) (at c.act.new.self)
    (expr_actions (expr_tree c.args.condition.now)) (IfTest ∷ []) c.in_ok-report_expr.ensures.ok)
    c.act.ensures.ok
