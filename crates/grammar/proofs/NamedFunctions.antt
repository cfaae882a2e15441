-- Along a derivation without a fault, each function that was defined has its names among those in scope.
use Rattle.std.proofs.Common.{◌≡◌, ℕ, zero, suc, ◌<◌, List, [], ◌∷◌, ◌++◌, sym, ◌∙◌, subst, inl, inr, Bool, true, false, append-nil, length}
use Rattle.std.specs.Prelude.{if◌then◌else◌, set}
use Rattle.tokens.specs.declared.located_tokens.LocatedToken.{LocatedToken}
use Rattle.grammar.specs.Compiled.{order_of}
use Rattle.grammar.specs.Derivation.{State, initial_state, PartialTree, Definition, definition_of, last_body, line_at, stack_step, stepped, derived}
use Rattle.grammar.specs.Laws.StateParts.{state}
use Rattle.grammar.specs.Faults.{faults_at, faults_in}
use Rattle.grammar.specs.Grammar.{Item, Exactly, AKeyword, AName, AConstant, AnEnd, Part, Make, Close, Define, Role, Defined, External, Parameter, Typed, Local, Called, Mentioned}
use Rattle.grammar.specs.Laws.Parsing.{DerivesWithoutFault}
use Rattle.grammar.specs.Pools.{FunctionNames, names_of_function}
use Rattle.grammar.specs.Profile.{Profile}
use Rattle.grammar.specs.Resolved.{IsAmong, AreDistinct}
use Rattle.grammar.specs.Scope.{Scope, scope_after_name, end_definition, is_function_new, only_named, with_function, is_external_new, is_local_new, is_variable_new, with_external, with_parameter, with_variable}
use Rattle.grammar.proofs.AfterSteps.{IfStepped, if_matched, if_named, if_constant, if_replaced, after_step}
use Rattle.grammar.proofs.Phases.{phase_of}
use Rattle.grammar.proofs.ResolvedLaws.{Sound, Busy, among_last, ended, stepped_sound, run_sound, start_sound}
use Rattle.grammar.proofs.Runs.{append_empty}
use Rattle.grammar.proofs.DistinctNames.{AreAt, at_wider, at_append}
use Rattle.grammar.proofs.Indices.{get_set_same, get_set_other}

-- a derivation that comes from the start without a fault is sound
pub sound_of_passes : (profile : Profile) (located_tokens : List LocatedToken) (s : State) →
    DerivesWithoutFault profile (initial_state located_tokens) s → Sound s
sound_of_passes profile located_tokens s p =
    subst (λ (t : State). Sound t) p.leads
    (run_sound profile p.steps (initial_state located_tokens) p.clean (start_sound located_tokens))

-- the names of each function that was defined are at its number
abbrev pub AreNamed : List FunctionNames → List Definition → Type 0
AreNamed functions ds = AreAt names_of_function functions ds

-- Names.

named_if : (b : Bool) (more same : Scope) (ds : List Definition) → AreNamed more.functions ds →
    AreNamed same.functions ds → AreNamed (if b then more else same).functions ds
named_if true more same ds h k = h
named_if false more same ds h k = k

function_named : (name : List ℕ) (line : ℕ) (scope : Scope) (ds : List Definition) → AreNamed scope.functions ds →
    AreNamed (with_function name line scope).functions ds
function_named name line scope ds h =
    named_if (is_function_new name scope) _ scope ds
    (at_wider names_of_function scope.functions (only_named name ∷ []) ds h) h

role_named : (role : Role) (name : List ℕ) (line : ℕ) (scope : Scope) (ds : List Definition) →
    AreNamed scope.functions ds → AreNamed (scope_after_name role name line scope).functions ds
role_named Defined name line scope ds h = function_named name line scope ds h
role_named External name line scope ds h = named_if (is_external_new name scope) (with_external name scope) scope ds h h
role_named Parameter name line scope ds h = named_if (is_local_new name scope) (with_parameter name scope) scope ds h h
role_named Typed name line scope ds h = h
role_named Local name line scope ds h = named_if (is_local_new name scope) (with_variable name scope) scope ds h h
role_named Called name line scope ds h = function_named name line scope ds h
role_named Mentioned name line scope ds h =
    named_if (is_variable_new name scope) (with_variable name scope) scope ds h h

-- The end of a definition.

-- a last number that is there once isn't among those before
last_apart : (ns : List ℕ) (n : ℕ) → AreDistinct (ns ++ n ∷ []) → IsAmong n ns → ⊥
last_apart [] n h i = i
last_apart (x ∷ ns) n h (inl e) = h.0 (subst (λ (k : ℕ). IsAmong k (ns ++ n ∷ [])) e (among_last n ns))
last_apart (x ∷ ns) n h (inr i) = last_apart ns n h.1 i

-- other functions keep their names
others_named : (functions : List FunctionNames) (number : ℕ) (names : FunctionNames) (ds : List Definition) →
    (IsAmong number (order_of ds) → ⊥) →
    AreNamed functions ds → AreNamed (set functions number names) ds
others_named functions number names [] new h = tt
others_named functions number names (d ∷ ds) new h = (
  get_set_other functions number d.number names (λ e. new (inl (sym e))) ∙ h.0,
  others_named functions number names ds (λ i. new (inr i)) h.1,
)

define_named : (stack : List Item) (rest : List LocatedToken) (values : List PartialTree) (scope : Scope)
    (ds : List Definition) → Sound (state (Make Define ∷ stack) rest values scope ds) →
    AreNamed scope.functions ds →
    AreNamed (end_definition scope).functions (ds ++ definition_of scope (last_body values) ∷ [])
define_named stack rest values scope ds s h =
    let b : Busy values scope ds = ended (phase_of stack) values scope ds s.tied in
    let within : scope.number < length scope.functions =
    s.scoped.below scope.number
    (subst (λ (ns : List ℕ). IsAmong scope.number ns) (sym b.begun) (among_last scope.number (order_of ds))) in
    let new : IsAmong scope.number (order_of ds) → ⊥ =
    last_apart (order_of ds) scope.number (subst (λ (ns : List ℕ). AreDistinct ns) b.begun s.scoped.begun) in
    at_append names_of_function (set scope.functions scope.number scope.current) ds
    (definition_of scope (last_body values))
    (others_named scope.functions scope.number scope.current ds new h)
    (get_set_same scope.functions scope.number scope.current within)

-- Steps.

abbrev Named : State → Type 0
Named s = AreNamed s.scope.functions s.functions

same_named : (functions : List FunctionNames) (ds : List Definition) → AreNamed functions ds →
    AreNamed functions (ds ++ [])
same_named functions ds h = subst (λ (xs : List Definition). AreNamed functions xs) (sym (append-nil ds)) h

step_named : (stack : List Item) (s : State) → Sound (record s { stack = stack }) → Named s →
    IfStepped Named (stack_step stack s)
step_named [] s sound h = tt
step_named (Exactly m ∷ stack) s sound h = if_matched Named _ stack s (λ e. h)
step_named (AKeyword w ∷ stack) s sound h = if_matched Named _ stack s (λ e. h)
step_named (AName role ∷ stack) s sound h =
    if_named Named role _ stack s (λ n e. role_named role n (line_at s.rest) s.scope s.functions h)
step_named (AConstant ∷ stack) s sound h = if_constant Named _ stack s (λ n e. h)
step_named (AnEnd ∷ stack) s sound h = if_matched Named _ stack s (λ e. h)
step_named (Part symbol ∷ stack) s sound h = if_replaced Named _ stack s (λ items e. h)
step_named (Make Define ∷ stack) s sound h = define_named stack s.rest s.values s.scope s.functions sound h
step_named (Make rule ∷ stack) s sound h = same_named s.scope.functions s.functions h
step_named (Close ∷ stack) s sound h = h

-- Derivations.

stepped_named : (s : State) → Sound s → Named s → Named (stepped s)
stepped_named s sound h =
    after_step Named s (step_named s.stack s (record { scoped = sound.scoped; tied = sound.tied }) h) h

run_named : (profile : Profile) (n : ℕ) (s : State) → faults_in profile n s ≡ [] → Sound s → Named s →
    Named (derived n s)
run_named profile zero s clean sound h = h
run_named profile (suc n) s clean sound h =
    run_named profile n (stepped s) (append_empty (faults_at profile s) (faults_in profile n (stepped s)) clean).1
    (stepped_sound profile s (append_empty (faults_at profile s) (faults_in profile n (stepped s)) clean).0 sound)
    (stepped_named s sound h)

-- so it is wherever a derivation leads without a fault
pub named_of_passes : (profile : Profile) (located_tokens : List LocatedToken) (s : State) →
    DerivesWithoutFault profile (initial_state located_tokens) s → AreNamed s.scope.functions s.functions
named_of_passes profile located_tokens s p =
    subst (λ (t : State). AreNamed t.scope.functions t.functions) p.leads
    (run_named profile p.steps (initial_state located_tokens) p.clean (start_sound located_tokens) tt)
