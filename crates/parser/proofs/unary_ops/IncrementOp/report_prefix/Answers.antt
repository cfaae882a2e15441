use Rattle.std.proofs.Common.{[], ◌∷◌, pos}
use Rattle.grammar.specs.declared.actions.Action.TheVariants.{PushConstant, StoreVariable}
use Rattle.grammar.proofs.RepresentationLaws.{appends_both, may_first}
use Rattle.parser.specs.UnaryOps.{increment_store_op}
use Rattle.parser.proofs.Reports.{next_follows}
use Rattle.parser.proofs.unary_ops.IncrementOp.report_prefix.Goals as goal

pub act-requires : goal.act-requires
act-requires g c = record {
  follows =
      may_first _ (PushConstant (pos 1)) (StoreVariable c.args.var (increment_store_op c.args.self) ∷ [])
      c.requires.follow;
}

pub act-requires-2 : goal.act-requires-2
act-requires-2 g c = record {
  follows =
      rw c.store_op.ensures (next_follows (g.B.Build.stands c.args.build.now) _ (PushConstant (pos 1) ∷ [])
      (StoreVariable c.args.var (increment_store_op c.args.self)) [] c.requires.follow c.in_ok-act.ensures.ok);
}

pub returns-clause-reported : goal.returns-clause-reported
returns-clause-reported g c =
    appends_both (g.B.Build.stands c.args.build.now) (g.B.Build.stands c.act.new.self)
    (g.B.Build.stands c.act-2.new.self)
    (PushConstant (pos 1) ∷ [])
    (StoreVariable c.args.var (increment_store_op c.args.self) ∷ []) c.in_ok-act.ensures.ok
    (rw c.store_op.ensures at c.in_ok-act-2.ensures.ok)
