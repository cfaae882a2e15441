use Rattle.std.proofs.Common.{pos, [], ◌∷◌}
use Rattle.grammar.specs.declared.actions.Action.TheVariants.{EndFunction, GiveBack, PushConstant}
use Rattle.parser.proofs.Reports.{next_follows}
use Rattle.grammar.proofs.RepresentationLaws.{appends_both, may_first}
use Rattle.parser.proofs.automaton.Automaton.report_end.Goals as goal

pub act-requires : goal.act-requires
act-requires g c = record {
  follows = may_first _ (PushConstant (pos 0)) (GiveBack ∷ EndFunction c.args.variables ∷ []) c.requires.follow;
}

pub act-requires-2 : goal.act-requires-2
act-requires-2 g c = record {
  follows = next_follows (g.B.Build.stands c.args.self.now.builder.now) _ (PushConstant (pos 0) ∷ []) GiveBack
      (EndFunction c.args.variables ∷ []) c.requires.follow c.in_ok-act.ensures.ok;
}

pub act-requires-3 : goal.act-requires-3
act-requires-3 g c = record {
  follows = next_follows (g.B.Build.stands c.args.self.now.builder.now) _ (PushConstant (pos 0) ∷ GiveBack ∷ [])
      (EndFunction c.args.variables) [] c.requires.follow
      (appends_both (g.B.Build.stands c.args.self.now.builder.now) (g.B.Build.stands c.act.new.self)
      (g.B.Build.stands c.act-2.new.self) (PushConstant (pos 0) ∷ []) (GiveBack ∷ []) c.in_ok-act.ensures.ok
      c.in_ok-act-2.ensures.ok);
}
