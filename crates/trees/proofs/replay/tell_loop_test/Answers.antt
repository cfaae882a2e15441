use Rattle.std.proofs.Common.{[], ◌∷◌}
use Rattle.grammar.specs.declared.actions.Action.TheVariants.{WhileTest}
use Rattle.trees.proofs.ReplayLaws.{may_next}
use Rattle.trees.proofs.replay.tell_loop_test.Goals as goal
use Rattle.grammar.proofs.RepresentationLaws.{may_first, may_front}

pub act-requires : goal.act-requires
act-requires g c = record { follows = may_first _ _ _ c.requires }

pub report_expr-requires : goal.report_expr-requires
report_expr-requires g c =
    let at = g.B.Build.stands in
    may_front _ _ (WhileTest ∷ [])
    (may_next (at c.args.build.now) (at c.act.new.self) _ _ c.in_ok-act.ensures.ok c.requires)
