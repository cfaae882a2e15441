use Rattle.std.proofs.Common.{[], ◌∷◌, ℤ, subst, sym, w32}
use Rattle.std.proofs.lemmas.Int.{to_z-of_z}
use Rattle.grammar.specs.declared.actions.Action.TheVariants.{ApplyBinop, PushConstant}
use Rattle.grammar.specs.Building.{AppendsAll, MayFollow}
use Rattle.parser.proofs.Reports.{next_follows}
use Rattle.parser.proofs.unary_ops.report_constant_and_op.Goals as goal
use Rattle.grammar.proofs.RepresentationLaws.{appends_both, may_first}

pub act-requires : goal.act-requires
act-requires g c = record {
  follows =
      subst (λ (v : ℤ). MayFollow (g.B.Build.stands c.args.build.now) (PushConstant v))
      (sym (to_z-of_z w32 c.args.value c.ranges.value))
      (may_first (g.B.Build.stands c.args.build.now) (PushConstant c.args.value) (ApplyBinop c.args.op ∷ [])
      c.requires.follow);
}

pub act-requires-2 : goal.act-requires-2
act-requires-2 g c = record {
  follows =
      next_follows (g.B.Build.stands c.args.build.now) (g.B.Build.stands c.act.new.self)
      (PushConstant c.args.value ∷ []) (ApplyBinop c.args.op) [] c.requires.follow
      (subst
      (λ (v : ℤ). AppendsAll (g.B.Build.stands c.args.build.now) (g.B.Build.stands c.act.new.self)
      (PushConstant v ∷ [])) (to_z-of_z w32 c.args.value c.ranges.value) c.in_ok-act.ensures.ok);
}

pub returns-clause-reported : goal.returns-clause-reported
returns-clause-reported g c =
    appends_both (g.B.Build.stands c.args.build.now) (g.B.Build.stands c.act.new.self)
    (g.B.Build.stands c.act-2.new.self) (PushConstant c.args.value ∷ []) (ApplyBinop c.args.op ∷ [])
    (subst
    (λ (v : ℤ). AppendsAll (g.B.Build.stands c.args.build.now) (g.B.Build.stands c.act.new.self)
    (PushConstant v ∷ [])) (to_z-of_z w32 c.args.value c.ranges.value) c.in_ok-act.ensures.ok)
    c.in_ok-act-2.ensures.ok
