use Rattle.std.proofs.Common.{pos, [], ◌∷◌}
use Rattle.std.proofs.lemmas.Result.{on_ok_weaker}
use Rattle.grammar.specs.declared.actions.Action.TheVariants.{Chop, FetchVariable, PushConstant, StoreVariable}
use Rattle.trees.proofs.ReplayLaws.{may_next}
use Rattle.trees.proofs.replay.tell_step.Goals as goal
use Rattle.grammar.proofs.RepresentationLaws.{appends_both, may_first}

pub act-requires : goal.act-requires
act-requires g c = record { follows = may_first _ _ _ c.requires }

pub act-requires-2 : goal.act-requires-2
act-requires-2 g c =
    let at = g.B.Build.stands in
    record {
      follows =
          may_first _ _ _
          (may_next (at c.args.build.now) (at c.act.new.self) _ _ c.in_ok-act.ensures.ok c.requires);
    }

pub act-requires-3 : goal.act-requires-3
act-requires-3 g c =
    let at = g.B.Build.stands in
    let may = may_next (at c.args.build.now) (at c.act.new.self) _ _ c.in_ok-act.ensures.ok c.requires in
    record {
      follows =
          may_first _ _ _
          (may_next (at c.act.new.self) (at c.act-2.new.self) _ _ c.in_ok-act-2.ensures.ok may);
    }

pub act-requires-4 : goal.act-requires-4
act-requires-4 g c =
    let at = g.B.Build.stands in
    let may = may_next (at c.args.build.now) (at c.act.new.self) _ _ c.in_ok-act.ensures.ok c.requires in
    let next = may_next (at c.act.new.self) (at c.act-2.new.self) _ _ c.in_ok-act-2.ensures.ok may in
    record {
      follows =
          may_first _ _ _ (may_next (at c.act-2.new.self) (at c.act-3.new.self) _ _ c.in_ok-act-3.ensures.ok next);
    }

pub returns-clause-ok : goal.returns-clause-ok
returns-clause-ok g c =
    let at = g.B.Build.stands in
    let get = FetchVariable c.args.var ∷ [] in
    let one = PushConstant (pos 1) ∷ [] in
    let put = StoreVariable c.args.var c.args.op ∷ [] in
    let two =
    appends_both (at c.args.build.now) (at c.act.new.self) (at c.act-2.new.self) get one c.in_ok-act.ensures.ok
    c.in_ok-act-2.ensures.ok in
    let three =
    appends_both (at c.args.build.now) (at c.act-2.new.self) (at c.act-3.new.self) (FetchVariable c.args.var ∷ one)
    put two c.in_ok-act-3.ensures.ok in
    on_ok_weaker _
    (appends_both (at c.args.build.now) (at c.act-3.new.self) (at c.act-4.new.self)
    (FetchVariable c.args.var ∷ PushConstant (pos 1) ∷ put) (Chop ∷ []) three) c.act-4.ensures.ok
