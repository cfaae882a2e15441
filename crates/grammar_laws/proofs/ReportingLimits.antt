-- At a state without a fault what is asked of it for the limits to hold.
use Rattle.std.proofs.Common.{◌≡◌, ℕ, ◌<◌, List, [], ◌∷◌, ◌++◌, refl, sym, subst, Bool, true, false, arith, length}
use Rattle.std.proofs.lemmas.Bool.Decides.{nat_tests}
use Rattle.std.specs.Prelude.{Option, Some, nat_le, if◌then◌else◌}
use Rattle.tokens.specs.declared.located_tokens.LocatedToken.{LocatedToken}
use Rattle.grammar.specs.declared.diagnostics.Code.TheVariants as fault_code
use Rattle.grammar.specs.Compiled.{order_of}
use Rattle.grammar.specs.Derivation.{State, PartialTree, Definition, next_token, token_after_next, line_at, name_of_token}
use Rattle.grammar.specs.Laws.StateParts.{state}
use Rattle.grammar.specs.Derivation.{stack_step}
use Rattle.grammar.specs.Faults.{Fault, fault, faults_at, stack_faults, nested_count, unexpected_token, unexpected_tokens}
use Rattle.grammar.specs.Faults.{name_faults, only_if, role_faults}
use Rattle.grammar.specs.Grammar.{Symbol, FunctionBlock, Item, AName, Part, Make, Define, Role, Called, Mentioned}
use Rattle.grammar.specs.Grammar.{enters, is_lexical_error}
use Rattle.grammar.specs.NameLimits.{most_names, most_nested}
use Rattle.grammar.specs.Profile.{Profile}
use Rattle.grammar.specs.Resolved.{IsAmong}
use Rattle.grammar.specs.Scope.{Scope, scope_after_name, callee_of, variable_of}
use Rattle.grammar.proofs.Phases.{phase_of}
use Rattle.grammar.proofs.ResolvedLaws.{Busy, Sound, among_last, ended}
use Rattle.grammar.proofs.Runs.{append_empty}
use Rattle.grammar.proofs.Soundness.{Clean, Grows, IsScoped, callee_in, role_grows, variable_in}
use Rattle.grammar.proofs.Widening.{IsWider, callable_wider, variable_wider}
use Rattle.grammar_laws.proofs.ReportingOperands.{Begins}
use Rattle.grammar_laws.proofs.ReportingSteps.{Allows, NameAllows}

-- Levels.

level_below : (enters : Bool) (open_levels : ℕ) (f : Fault) →
    only_if enters (only_if (nat_le most_nested open_levels) (f ∷ [])) ≡ [] → enters ≡ true → open_levels < most_nested
unfolding most_nested
level_below true open_levels f clean e = by (nat_le most_nested open_levels) refl clean
  where
    by : (b : Bool) → nat_le most_nested open_levels ≡ b → only_if b (f ∷ []) ≡ [] → open_levels < most_nested
    by true is h = absurd (cc)
    by false is h = grind (arith, nat_tests)
level_below false open_levels f clean e = absurd (cc)

-- Names.

scoped_wider : (scope : Scope) (ds : List Definition) → IsScoped scope ds →
    IsWider (length scope.externals) (length scope.current.variables) (length scope.functions) most_names most_names
    most_names
scoped_wider scope ds k = record { externals = k.externals; locals = k.variables; functions = k.functions }

call_allowed : (name : List ℕ) (scope : Scope) (ds : List Definition) (rest : List LocatedToken) → IsScoped scope ds →
    Clean (role_faults Called name scope rest) → NameAllows (Unit {0}) Called (Some name) scope
call_allowed name scope ds rest k clean =
    let g : Grows scope (scope_after_name Called name (line_at rest) scope) ds =
    role_grows Called name (line_at rest) scope ds rest tt k clean in
    λ a. callable_wider _ _ _ most_names most_names most_names
    (scoped_wider (scope_after_name Called name (line_at rest) scope) ds g.scoped)
    (callee_of name scope) (callee_in name (line_at rest) scope)

mention_allowed : (name : List ℕ) (scope : Scope) (ds : List Definition) (rest : List LocatedToken) →
    IsScoped scope ds →
    Clean (role_faults Mentioned name scope rest) → NameAllows (Unit {0}) Mentioned (Some name) scope
mention_allowed name scope ds rest k clean =
    let g : Grows scope (scope_after_name Mentioned name (line_at rest) scope) ds =
    role_grows Mentioned name (line_at rest) scope ds rest tt k clean in
    λ a. variable_wider _ _ _ most_names most_names most_names
    (scoped_wider (scope_after_name Mentioned name (line_at rest) scope) ds g.scoped)
    (variable_of name scope) (variable_in name scope)

name_allowed : (role : Role) (name : Option (List ℕ)) (scope : Scope) (ds : List Definition)
    (rest : List LocatedToken) → IsScoped scope ds → Clean (name_faults role name scope rest) →
    NameAllows (Unit {0}) role name scope
name_allowed Called (Some name) scope ds rest k clean = call_allowed name scope ds rest k clean
name_allowed Mentioned (Some name) scope ds rest k clean = mention_allowed name scope ds rest k clean
name_allowed role name scope ds rest k clean = tt

-- Functions.

begins_allowed : (symbol : Symbol) (stack : List Item) (rest : List LocatedToken) (values : List PartialTree)
    (scope : Scope)
    (ds : List Definition) → Sound (state (Part symbol ∷ stack) rest values scope ds) → Begins (Unit {0}) symbol scope
begins_allowed FunctionBlock stack rest values scope ds s =
    let k : IsScoped scope ds = s.scoped in
    let b : Busy values scope ds = ended (phase_of stack) values scope ds s.tied in
    let low : scope.number < length scope.functions =
    k.below scope.number (subst (λ (ns : List ℕ). IsAmong scope.number ns) (sym b.begun)
    (among_last scope.number (order_of ds))) in
    λ a. (omega (arith, low, k.functions), omega (arith, k.parameters, k.variables))
begins_allowed symbol stack rest values scope ds s = tt

-- Any item.

item_allowed : (profile : Profile) (stack : List Item) (rest : List LocatedToken) (values : List PartialTree)
    (scope : Scope)
    (ds : List Definition) → Clean (stack_faults profile stack (state stack rest values scope ds)) →
    Sound (state stack rest values scope ds) → Allows (Unit {0}) stack rest scope
item_allowed profile [] rest values scope ds clean s = tt
item_allowed profile (Part symbol ∷ stack) rest values scope ds clean s = (
  (λ a e. level_below (enters symbol (next_token rest) (token_after_next rest)) (nested_count stack)
      (fault rest fault_code.NestedTooDeeply)
      clean e),
  begins_allowed symbol stack rest values scope ds s,
)
item_allowed profile (AName role ∷ stack) rest values scope ds clean s =
    name_allowed role (name_of_token (next_token rest)) scope ds rest s.scoped clean
item_allowed profile (Make Define ∷ stack) rest values scope ds clean s = λ a. (s.scoped.parameters, s.scoped.variables)
item_allowed profile (item ∷ stack) rest values scope ds clean s = tt

guarded_clean : (b : Bool) (rest : List LocatedToken) (xs ys : List Fault) →
    (if b then unexpected_token rest else xs ++ ys) ≡ [] → b ≡ false → xs ≡ []
guarded_clean true rest xs ys e is = absurd (cc)
guarded_clean false rest xs ys e is = (append_empty xs ys e).0

pub allowed : (profile : Profile) (s : State) → faults_at profile s ≡ [] → Sound s →
    is_lexical_error (next_token s.rest) ≡ false →
    Allows (Unit {0}) s.stack s.rest s.scope
allowed profile s clean h e =
    item_allowed profile s.stack s.rest s.values s.scope s.functions
    (guarded_clean (is_lexical_error (next_token s.rest)) s.rest
    (stack_faults profile s.stack s)
    (unexpected_tokens s.stack s.rest (stack_step s.stack s)) clean e)
    (record { scoped = h.scoped; tied = h.tied })

-- Without limits nothing is asked.

nothing_begins : (symbol : Symbol) (scope : Scope) → Begins ⊥ symbol scope
nothing_begins FunctionBlock scope = λ a. absurd a
nothing_begins symbol scope = tt

nothing_named : (role : Role) (name : Option (List ℕ)) (scope : Scope) → NameAllows ⊥ role name scope
nothing_named Called (Some name) scope = λ a. absurd a
nothing_named Mentioned (Some name) scope = λ a. absurd a
nothing_named role name scope = tt

pub unlimited : (stack : List Item) (rest : List LocatedToken) (scope : Scope) → Allows ⊥ stack rest scope
unlimited [] rest scope = tt
unlimited (Part symbol ∷ stack) rest scope = ((λ a. absurd a), nothing_begins symbol scope)
unlimited (AName role ∷ stack) rest scope = nothing_named role (name_of_token (next_token rest)) scope
unlimited (Make Define ∷ stack) rest scope = λ a. absurd a
unlimited (item ∷ stack) rest scope = tt
