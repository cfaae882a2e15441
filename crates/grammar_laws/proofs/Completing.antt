-- A derivation may go on to its end, with the shortest trees: what was emitted begins the actions of some functions.
use Rattle.std.proofs.Common.{◌≡◌, ◌≤◌, ℕ, ◌+◌, List, [], ◌∷◌, ◌++◌, sym, ap, ◌∙◌, subst, arith, append_assoc}
use Rattle.std.proofs.Common.{append-nil, length}
use Rattle.std.proofs.lemmas.List.{length-replicate}
use Rattle.std.specs.Prelude.{pos, replicate}
use Rattle.grammar.specs.declared.resolved_names.Callee.TheVariants as callee
use Rattle.grammar.specs.declared.resolved_names.Var.TheVariants as var
use Rattle.grammar.specs.declared.actions.Action.{Action}
use Rattle.grammar.specs.declared.actions.Action.TheVariants.{PushConstant, BeginCall, BeginFunction, EndFunction}
use Rattle.grammar.specs.declared.actions.Action.TheVariants.{EndIf}
use Rattle.grammar.specs.Actions.{body_actions, last_return}
use Rattle.grammar.specs.Beginning.{AreReportable, IsReportable}
use Rattle.grammar.specs.Derivation.{PartialTree, Definition, last_body, trees_after}
use Rattle.grammar_laws.specs.Emission.{on_rule}
use Rattle.grammar.specs.Beginning.{definitions_actions}
use Rattle.grammar.specs.Grammar.{Symbol, Source, Types, Head, More, Parameters, ParameterTypes, FunctionBlock, Block}
use Rattle.grammar.specs.Grammar.{Declarations, Statements, Statement, ElsePart, Back, Expression, Level, Tail, Unary}
use Rattle.grammar.specs.Grammar.{Primary, Arguments, MoreArguments, Role, Defined, External, Parameter, Typed, Local}
use Rattle.grammar.specs.Grammar.{Called, Mentioned, Item, Exactly, AKeyword, AName, AConstant, AnEnd, Part, Make, Close}
use Rattle.grammar.specs.Grammar.{SemanticAction, Define, Decide}
use Rattle.grammar.specs.Tree as tree
use Rattle.grammar.specs.Tree.{Body}
use Rattle.grammar.proofs.Beginnings.{definitions_last, reportable_last}
use Rattle.grammar_laws.proofs.Fitting.{constant_fits}
use Rattle.grammar_laws.proofs.ReportingOperands.{no_more_operators, no_more_arguments}
use Rattle.grammar_laws.proofs.ReportingProductions.{no_more_statements, no_more_names, without_else}
use Rattle.grammar_laws.proofs.Reporting.{Fact, Between, Defines, Gives, Named, Parted, Ruled, room_in, Reports}

-- the actions begin those of the functions defined so far, and of further ones
pub record Completes (A : Type 0) (ds : List Definition) (acts : List Action) : Type 0 where
  pub further : List Definition
  pub one : length further ≤ 1
  pub rest : List Action
  pub begins : acts ++ rest ≡ definitions_actions (ds ++ further)
  pub fit : A → AreReportable (ds ++ further)

front : (A : Type 0) (ds : List Definition) (acts more : List Action) → Completes A ds (acts ++ more) →
    Completes A ds acts
front A ds acts more c = record {
  further = c.further;
  one = c.one;
  rest = more ++ c.rest;
  begins =
      sym (append_assoc acts more c.rest) ∙ c.begins;
  fit = c.fit;
}

ended : (A : Type 0) (ds : List Definition) (acts : List Action) → definitions_actions ds ≡ acts →
    (A → AreReportable ds) → Completes A ds acts
ended A ds acts e f = record {
  further = [];
  one = omega arith;
  rest = [];
  begins = append-nil acts ∙ sym e ∙ ap definitions_actions (sym (append-nil ds));
  fit = λ a. subst (λ (xs : List Definition). AreReportable xs) (sym (append-nil ds)) (f a);
}

-- a function with this body, and no variables but its parameters
abbrev shortest : ℕ → ℕ → Body → Definition
shortest n k b = record {
  number = n;
  function = record
      { name = []; parameters = k; variables = replicate k []; body = b };
}

defined : (A : Type 0) (next : Fact) (values : List PartialTree) (n k : ℕ) (ds : List Definition) (acts : List Action) →
    Defines A next values n k ds acts → Completes A ds acts
defined A next values n k ds acts h = record {
  further = shortest n k (last_body values) ∷ [];
  one = omega arith;
  rest = rest;
  begins = sym
      (definitions_last ds (shortest n k (last_body values))
      ∙ sym (append_assoc (definitions_actions ds) (BeginFunction n k ∷ body_actions (last_body values)) rest)
      ∙ ap (λ xs. xs ++ rest) h.reported);
  fit = λ a. reportable_last ds (shortest n k (last_body values)) (h.fit a) (reportable a);
}
  where
    rest : List Action
    rest = last_return ++ EndFunction (length {A = List ℕ} (replicate k [])) ∷ []

    long : length {A = List ℕ} (replicate k []) ≡ k
    long = length-replicate k []

    reportable : A → IsReportable (shortest n k (last_body values))
    reportable a = record {
      number = (h.numbers a).0;
      parameters = omega (arith, long);
      variables = omega (arith, long, (h.numbers a).1);
      names = h.body.names a;
      few = h.body.few a;
    }

-- whatever is left after an item leads to the end
abbrev Completed : Type 0 → Fact → Type 0
Completed A next = (values : List PartialTree) (n k : ℕ) (ds : List Definition) (acts : List Action) →
    next values n k ds acts → Completes A ds acts

name_completes : (A : Type 0) (role : Role) (next : Fact) → Completed A next →
    Completed A (λ vs m j more reported. Named A role next vs m j more reported)
name_completes A Defined next on values n k ds acts h = on values n k ds acts (h n k)
name_completes A External next on values n k ds acts h = on values n k ds acts h
name_completes A Parameter next on values n k ds acts h = on values n k ds acts (h k)
name_completes A Typed next on values n k ds acts h = on values n k ds acts h
name_completes A Local next on values n k ds acts h = on values n k ds acts h
name_completes A Called next on values n k ds acts h =
    front A ds acts (BeginCall ∷ []) (on _ n k ds _ (h (callee.Function 0) (λ a. omega arith)))
name_completes A Mentioned next on values n k ds acts h = on _ n k ds acts (h (var.Local 0) (λ a. omega arith))

value_completes : (A : Type 0) (room : ℕ) (next : Fact) → Completed A next →
    Completed A (λ vs m j more reported. Gives A room next vs m j more reported)
value_completes A room next on values n k ds acts h =
    front A ds acts (PushConstant (pos 0) ∷ []) (on _ n k ds _
    (h (tree.Constant (pos 0)) (constant_fits A room (pos 0))))

between_completes : (A : Type 0) (next : Fact) (ds : List Definition) (acts : List Action) → Between A next ds acts →
    Completes A ds acts
between_completes A next ds acts h = ended A ds acts h.reported h.fit

part_completes : (A : Type 0) (symbol : Symbol) (stack : List Item) → Completed A (Reports A stack) →
    Completed A (λ vs m j more reported. Parted A symbol (room_in stack) (Reports A stack) vs m j more reported)
part_completes A Source stack on values n k ds acts h = between_completes A (Reports A stack) ds acts h
part_completes A Types stack on values n k ds acts h = on values n k ds acts h
part_completes A Head stack on values n k ds acts h = between_completes A (Reports A stack) ds acts h
part_completes A (More role) stack on values n k ds acts h =
    on values n k ds acts (no_more_names A role (Reports A stack) values n k ds acts h)
part_completes A Parameters stack on values n k ds acts h = on values n k ds acts (h k)
part_completes A ParameterTypes stack on values n k ds acts h = on values n k ds acts h
part_completes A FunctionBlock stack on values n k ds acts h = between_completes A (Reports A stack) ds acts h
part_completes A Block stack on values n k ds acts h =
    on values n k ds acts (no_more_statements A (room_in stack + 2) (Reports A stack) values n k ds acts h)
part_completes A Declarations stack on values n k ds acts h = on values n k ds acts h
part_completes A Statements stack on values n k ds acts h =
    on values n k ds acts (no_more_statements A (room_in stack + 2) (Reports A stack) values n k ds acts h)
part_completes A Statement stack on values n k ds acts h =
    on values n k ds acts (no_more_statements A (room_in stack + 2) (Reports A stack) values n k ds acts h)
part_completes A ElsePart stack on values n k ds acts h =
    front A ds acts (EndIf ∷ []) (on (trees_after Decide values) n k ds (acts ++ EndIf ∷ [])
    (without_else A stack values n k ds acts h))
part_completes A Back stack on values n k ds acts h =
    value_completes A (room_in stack + 2) (Reports A stack) on values n k ds acts h
part_completes A Expression stack on values n k ds acts h =
    value_completes A (room_in stack + 2) (Reports A stack) on values n k ds acts h
part_completes A (Level m) stack on values n k ds acts h = value_completes A _ (Reports A stack) on values n k ds acts h
part_completes A (Tail m) stack on values n k ds acts h =
    on values n k ds acts (no_more_operators A _ (Reports A stack) values n k ds acts h)
part_completes A Unary stack on values n k ds acts h =
    value_completes A (room_in stack) (Reports A stack) on values n k ds acts h
part_completes A Primary stack on values n k ds acts h =
    value_completes A (room_in stack) (Reports A stack) on values n k ds acts h
part_completes A Arguments stack on values n k ds acts h =
    on values n k ds acts (no_more_arguments A (room_in stack + 2) (Reports A stack) values n k ds acts h)
part_completes A MoreArguments stack on values n k ds acts h =
    on values n k ds acts (no_more_arguments A (room_in stack + 2) (Reports A stack) values n k ds acts h)

rule_completes : (A : Type 0) (rule : SemanticAction) (stack : List Item) → Completed A (Reports A stack) →
    Completed A (λ vs m j more reported. Ruled A rule stack (Reports A stack) vs m j more reported)
rule_completes A Define stack on values n k ds acts h = defined A (Reports A stack) values n k ds acts h
rule_completes A rule stack on values n k ds acts h =
    front A ds acts (on_rule rule stack values 0)
    (on (trees_after rule values) n k ds (acts ++ on_rule rule stack values 0) h)

pub completes : (A : Type 0) (stack : List Item) (values : List PartialTree) (n k : ℕ) (ds : List Definition)
    (acts : List Action) → Reports A stack values n k ds acts → Completes A ds acts
completes A [] values n k ds acts h = ended A ds acts h.reported h.fit
completes A (Exactly m ∷ stack) values n k ds acts h = completes A stack values n k ds acts h
completes A (AKeyword w ∷ stack) values n k ds acts h = completes A stack values n k ds acts h
completes A (AName role ∷ stack) values n k ds acts h =
    name_completes A role (Reports A stack) (λ vs m j more reported. completes A stack vs m j more reported) values n k
    ds acts h
completes A (AConstant ∷ stack) values n k ds acts h =
    front A ds acts (PushConstant (pos 0) ∷ []) (completes A stack _ n k ds _ (h 0))
completes A (AnEnd ∷ stack) values n k ds acts h = completes A stack values n k ds acts h
completes A (Part symbol ∷ stack) values n k ds acts h =
    part_completes A symbol stack (λ vs m j more reported. completes A stack vs m j more reported) values n k ds acts h
completes A (Make rule ∷ stack) values n k ds acts h =
    rule_completes A rule stack (λ vs m j more reported. completes A stack vs m j more reported) values n k ds acts h
completes A (Close ∷ stack) values n k ds acts h = completes A stack values n k ds acts h
