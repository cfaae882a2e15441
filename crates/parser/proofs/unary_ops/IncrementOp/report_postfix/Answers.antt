use Rattle.std.proofs.Common.{[], ◌∷◌, ◌++◌}
use Rattle.grammar.specs.declared.actions.Action.TheVariants.{Chop, FetchVariable}
use Rattle.grammar.proofs.RepresentationLaws.{appends_both, may_first, may_front, may_then}
use Rattle.parser.specs.UnaryOps.{prefix_actions}
use Rattle.parser.proofs.Reports.{next_follows}
use Rattle.parser.proofs.unary_ops.IncrementOp.report_postfix.Goals as goal

pub act-requires : goal.act-requires
act-requires g c = record {
  follows = may_first _ (FetchVariable c.args.var) (prefix_actions c.args.self c.args.var ++ Chop ∷ [])
      c.requires.follow;
}

pub report_prefix-requires : goal.report_prefix-requires
report_prefix-requires g c = record {
  follow =
      may_front _ (prefix_actions c.args.self c.args.var) (Chop ∷ [])
      (may_then (g.B.Build.stands c.args.build.now) _ (FetchVariable c.args.var ∷ [])
      (prefix_actions c.args.self c.args.var ++ Chop ∷ []) c.in_ok-act.ensures.ok c.requires.follow);
}

pub act-requires-2 : goal.act-requires-2
act-requires-2 g c = record {
  follows =
      next_follows (g.B.Build.stands c.args.build.now) (g.B.Build.stands c.report_prefix.new.build)
      (FetchVariable c.args.var ∷ prefix_actions c.args.self c.args.var) Chop [] c.requires.follow
      (appends_both (g.B.Build.stands c.args.build.now) (g.B.Build.stands c.act.new.self)
      (g.B.Build.stands c.report_prefix.new.build) (FetchVariable c.args.var ∷ [])
      (prefix_actions c.args.self c.args.var) c.in_ok-act.ensures.ok c.in_ok-report_prefix.ensures.reported);
}

pub returns-clause-reported : goal.returns-clause-reported
returns-clause-reported g c =
    appends_both (g.B.Build.stands c.args.build.now) (g.B.Build.stands c.report_prefix.new.build)
    (g.B.Build.stands c.act-2.new.self)
    (FetchVariable c.args.var ∷ prefix_actions c.args.self c.args.var) (Chop ∷ [])
    (appends_both (g.B.Build.stands c.args.build.now) (g.B.Build.stands c.act.new.self)
    (g.B.Build.stands c.report_prefix.new.build) (FetchVariable c.args.var ∷ [])
    (prefix_actions c.args.self c.args.var) c.in_ok-act.ensures.ok c.in_ok-report_prefix.ensures.reported)
    c.in_ok-act-2.ensures.ok
