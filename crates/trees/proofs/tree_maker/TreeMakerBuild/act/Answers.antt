use Rattle.std.proofs.Common.{Ok, ap, ◌∙◌, ℕ, ◌+◌, min}
use Rattle.std.specs.Prelude.{⊤}
use Rattle.grammar.specs.declared.actions.Action.{Action}
use Rattle.grammar.specs.declared.actions.Action.TheVariants.{EndFunction}
use Rattle.grammar.specs.Actions.{instructions}
use Rattle.grammar.proofs.Judging.{ends_none, judges_other, measures_fitting}
use Rattle.trees.specs.TreeMakers.{TreeMaker}
use Rattle.trees.proofs.RepresentationLaws.{stopped, may_go_on, went_on, fits_at_end, ended}
use Rattle.trees.proofs.tree_maker.TreeMakerBuild.act.Goals as goal

pub end_function-function-requires : goal.end_function-function-requires
end_function-function-requires c =
    let counted = c.count_past_limit-passes.ensures in
    let m = c.args.self.now in
    let code =
    counted.length ∙
    ap (λ (n : ℕ). min (m.length + n) 65535)
    (c.instructions-instructions.ensures.value ∙
    ap (λ (k : TreeMaker). instructions k.profile c.args.action) c.self.view_is ∙
    ap (λ (a : Action). instructions m.profile a) c.in-EndFunction-2.is) in
    rw (ap (λ (k : TreeMaker). k.stack) c.self-2.view_is)
    (may_go_on m c.count_past_limit-passes.new.self (EndFunction c.in-EndFunction-2.variables)
    c.count_past_limit-passes.result
    counted.stack code counted.passes c.if-passes.false (rw c.in-EndFunction-2.is at c.requires.follows))

pub returns-in-EndFunction-2-clause-ok : goal.returns-in-EndFunction-2-clause-ok
returns-in-EndFunction-2-clause-ok c =
    let counted = c.count_past_limit-passes.ensures in
    let m = c.args.self.now in
    let inside : TreeMaker =
    record {
      profile = c.self-2.inside.profile;
      functions = c.self-2.inside.functions.items;
      stack = c.self-2.inside.stack;
      length = c.self-2.inside.length;
    } in
    let code =
    counted.length ∙
    ap (λ (n : ℕ). min (m.length + n) 65535)
    (c.instructions-instructions.ensures.value ∙
    ap (λ (k : TreeMaker). instructions k.profile c.args.action) c.self.view_is ∙
    ap (λ (a : Action). instructions m.profile a) c.in-EndFunction-2.is) in
    rw c.in-EndFunction-2.is
    (ended m inside c.push_or_refuse.new.items.items c.end_function-function.new.self c.in-EndFunction-2.variables
    c.end_function-function.result c.count_past_limit-passes.result c.push_or_refuse.result
    (ap (λ (k : TreeMaker). k.profile) c.self-2.view_is ∙ counted.profile)
    (ap (λ (k : TreeMaker). k.functions) c.self-2.view_is ∙ counted.functions)
    (ap (λ (k : TreeMaker). k.stack) c.self-2.view_is ∙ counted.stack)
    (ap (λ (k : TreeMaker). k.length) c.self-2.view_is ∙ code)
    (rw (ap (λ (k : TreeMaker). k.length) c.self-2.view_is) counted.passes) c.if-passes.false
    (rw c.in-EndFunction-2.is at c.requires.follows) c.end_function-function.ensures c.push_or_refuse.ensures.ok)

pub returns-in-EndFunction-2-clause-judged : goal.returns-in-EndFunction-2-clause-judged
returns-in-EndFunction-2-clause-judged c =
    let counted = c.count_past_limit-passes.ensures in
    let m = c.args.self.now in
    let code =
    counted.length ∙
    ap (λ (n : ℕ). min (m.length + n) 65535)
    (c.instructions-instructions.ensures.value ∙
    ap (λ (k : TreeMaker). instructions k.profile c.args.action) c.self.view_is ∙
    ap (λ (a : Action). instructions m.profile a) c.in-EndFunction-2.is) in
    rw c.in-EndFunction-2.is
    (measures_fitting c.push_or_refuse.result ⊤ _
    (fits_at_end m c.count_past_limit-passes.new.self c.count_past_limit-passes.result c.requires.follows.stood.known
    code counted.passes
    c.if-passes.false) c.push_or_refuse.ensures.memory)

pub returns-in_default-clause-ok : goal.returns-in_default-clause-ok
returns-in_default-clause-ok c =
    let counted = c.count_past_limit-passes.ensures in
    let m = c.args.self.now in
    let code =
    counted.length ∙
    ap (λ (n : ℕ). min (m.length + n) 65535)
    (c.instructions-instructions.ensures.value ∙
    ap (λ (k : TreeMaker). instructions k.profile c.args.action) c.self.view_is) in
    stopped m c.count_past_limit-passes.new.self c.args.action c.count_past_limit-passes.result counted.profile code
    counted.passes
    c.if-passes-2.true (ends_none c.args.action c.in_default.not-EndFunction) c.requires.follows

pub returns-in_default-clause-judged : goal.returns-in_default-clause-judged
returns-in_default-clause-judged c =
    judges_other (Ok (tt {0})) ⊤ _ c.args.action (ends_none c.args.action c.in_default.not-EndFunction) tt

pub act-requires : goal.act-requires
act-requires c =
    let counted = c.count_past_limit-passes.ensures in
    let m = c.args.self.now in
    let code =
    counted.length ∙
    ap (λ (n : ℕ). min (m.length + n) 65535)
    (c.instructions-instructions.ensures.value ∙
    ap (λ (k : TreeMaker). instructions k.profile c.args.action) c.self.view_is) in
    record {
      allowed =
          rw (ap (λ (k : TreeMaker). k.stack) c.self-2.view_is)
          (may_go_on m c.count_past_limit-passes.new.self c.args.action c.count_past_limit-passes.result counted.stack
          code counted.passes
          c.if-passes-2.false c.requires.follows);
      inside = ends_none c.args.action c.in_default.not-EndFunction;
    }

pub returns-in_default-2-clause-ok : goal.returns-in_default-2-clause-ok
returns-in_default-2-clause-ok c =
    let counted = c.count_past_limit-passes.ensures in
    let m = c.args.self.now in
    let inside : TreeMaker =
    record {
      profile = c.self-2.inside.profile;
      functions = c.self-2.inside.functions.items;
      stack = c.self-2.inside.stack;
      length = c.self-2.inside.length;
    } in
    let code =
    counted.length ∙
    ap (λ (n : ℕ). min (m.length + n) 65535)
    (c.instructions-instructions.ensures.value ∙
    ap (λ (k : TreeMaker). instructions k.profile c.args.action) c.self.view_is) in
    went_on m inside c.act.new.self c.args.action c.count_past_limit-passes.result c.act.result
    (ap (λ (k : TreeMaker). k.profile) c.self-2.view_is ∙ counted.profile)
    (ap (λ (k : TreeMaker). k.functions) c.self-2.view_is ∙ counted.functions)
    (ap (λ (k : TreeMaker). k.stack) c.self-2.view_is ∙ counted.stack)
    (ap (λ (k : TreeMaker). k.length) c.self-2.view_is ∙ code)
    (rw (ap (λ (k : TreeMaker). k.length) c.self-2.view_is) counted.passes) c.if-passes-2.false c.requires.follows
    c.act.ensures.ok

pub returns-in_default-2-clause-judged : goal.returns-in_default-2-clause-judged
returns-in_default-2-clause-judged c =
    judges_other c.act.result ⊤ _ c.args.action (ends_none c.args.action c.in_default.not-EndFunction)
    c.act.ensures.memory
