-- What a name in its role leaves of the names in scope: the limits hold, and the function that is being defined stays.
use Rattle.std.proofs.Common.{◌≡◌, ℕ, ◌+◌, ◌<◌, ◌≤◌, List, [], ◌∷◌, ◌++◌, refl, sym, ◌∙◌, Bool, true, false, arith, length, le_refl, le_trans}
use Rattle.std.proofs.lemmas.List.{length-append}
use Rattle.std.specs.Prelude.{if◌then◌else◌}
use Rattle.tokens.specs.declared.located_tokens.LocatedToken.{LocatedToken}
use Rattle.grammar.specs.declared.diagnostics.Code.{Code}
use Rattle.grammar.specs.declared.diagnostics.Code.TheVariants as fault_code
use Rattle.grammar.specs.Faults.{Fault, no_room}
use Rattle.grammar.specs.Grammar.{Role, Defined, External, Parameter, Typed, Local, Called, Mentioned}
use Rattle.grammar.specs.Intrinsics.{is_intrinsic}
use Rattle.grammar.specs.Laws.Naming.{LearnsName}
use Rattle.grammar.specs.Scope.{Scope, has_begun, is_external_new, is_function_new, is_local_new, is_variable_new, number_or_next, only_named, with_external, with_new_function, with_parameter, with_variable}
use Rattle.grammar.specs.NameLimits.{most_names}
use Rattle.parser.specs.declared.roles.Declared.{Declared}
use Rattle.parser.specs.declared.roles.Declared.TheVariants as kind
use Rattle.parser.specs.Defining.{IsWithin, StaysAt, StaysIn, StaysInBody}
use Rattle.parser.specs.ScopedCursors.{Lookahead}
use Rattle.parser.specs.Roles.{role_of}
use Rattle.parser.specs.Segment.{BeginsDefinition}
use Rattle.grammar.proofs.Soundness.{number_in, room}

longer : {A : Type 0} (xs : List A) (x : A) → length (xs ++ x ∷ []) ≡ length xs + 1
longer xs x = length-append xs (x ∷ [])

with_variable_within : (new : Bool) (name : List ℕ) (scope : Scope) (c : Code) (rest : List LocatedToken) →
    no_room new (length scope.current.variables) c rest ≡ [] →
    IsWithin scope → IsWithin (if new then with_variable name scope else scope)
with_variable_within false name scope c rest clean w = w
with_variable_within true name scope c rest clean w =
    let small : length scope.current.variables < most_names = room _ c rest clean in
    let more : length (scope.current.variables ++ name ∷ []) ≡ length scope.current.variables + 1 = longer _ name in
    record {
      functions = w.functions;
      parameters = omega (arith, more, w.parameters);
      variables = omega (arith, more, small);
    }

with_parameter_within : (new : Bool) (name : List ℕ) (scope : Scope) (rest : List LocatedToken) (d : Fault) →
    (if new then no_room true (length scope.current.variables) fault_code.TooManyVariables rest else d ∷ []) ≡ [] →
    IsWithin scope → IsWithin (if new then with_parameter name scope else scope)
with_parameter_within false name scope rest d clean w = w
with_parameter_within true name scope rest d clean w =
    let small : length scope.current.variables < most_names = room _ fault_code.TooManyVariables rest clean in
    let more : length (scope.current.variables ++ name ∷ []) ≡ length scope.current.variables + 1 = longer _ name in
    record {
      functions = w.functions;
      parameters = omega (arith, more, w.parameters);
      variables = omega (arith, more, small);
    }

with_external_within : (new : Bool) (name : List ℕ) (scope : Scope) → IsWithin scope →
    IsWithin (if new then with_external name scope else scope)
with_external_within false name scope w = w
with_external_within true name scope w =
    record { functions = w.functions; parameters = w.parameters; variables = w.variables }

functions_within : (new : Bool) (name : List ℕ) (line : ℕ) (scope : Scope) (c : Code) (rest : List LocatedToken) →
    no_room new (length scope.functions) c rest ≡ [] →
    IsWithin scope → IsWithin (if new then with_new_function name line scope else scope)
functions_within false name line scope c rest clean w = w
functions_within true name line scope c rest clean w =
    let small : length scope.functions < most_names = room _ c rest clean in
    let more : length (scope.functions ++ only_named name ∷ []) ≡ length scope.functions + 1 =
    longer _ (only_named name) in
    record { functions = omega (arith, more, small); parameters = w.parameters; variables = w.variables }

-- a definition without a fault is of none of the machine's own functions, and begins for the first time
record IsFirst (own begun : Bool) (faults : List Fault) : Type 0 where
  pub other : own ≡ false
  pub clean : faults ≡ []

first : (own begun : Bool) (d e : Fault) (faults : List Fault) →
    (if own then d ∷ [] else (if begun then e ∷ [] else faults)) ≡ [] → IsFirst own begun faults
first true begun d e faults h = absurd (cc)
first false true d e faults h = absurd (cc)
first false false d e faults h = record { other = refl; clean = h }

-- the definition of a function that has no fault begins
begun_within : (own begun new : Bool) (name : List ℕ) (line : ℕ) (scope : Scope) (c : Code) (rest : List LocatedToken)
    (d e : Fault) →
    (if own then d ∷ [] else (if begun then e ∷ [] else no_room new (length scope.functions) c rest)) ≡ [] →
    IsWithin scope → length (if new then with_new_function name line scope else scope).functions ≤ most_names
begun_within own begun new name line scope c rest d e clean w =
    (functions_within new name line scope c rest (first own begun d e _ clean).clean w).functions

-- after a name without a fault the limits hold
pub within : (role : Role) (name : List ℕ) (line : ℕ) (old new : Scope) → LearnsName role name line old new →
    IsWithin old →
    IsWithin new
within External name line old new k w = rw k.behind (with_external_within (is_external_new name old) name old w)
within Parameter name line old new k w =
    rw k.behind (with_parameter_within (is_local_new name old) name old [] _ (k.clean []) w)
within Typed name line old new k w = rw k.behind w
within Local name line old new k w =
    rw k.behind (with_variable_within (is_local_new name old) name old fault_code.TooManyVariables [] (k.clean []) w)
within Mentioned name line old new k w =
    rw k.behind (with_variable_within (is_variable_new name old) name old fault_code.TooManyVariables [] (k.clean []) w)
within Called name line old new k w =
    rw k.behind
    (functions_within (is_function_new name old) name line old fault_code.TooManyFunctions [] (k.clean []) w)
within Defined name line old new k w = rw k.behind (record {
  functions = begun_within (is_intrinsic name) (has_begun name old) (is_function_new name old) name line old
      fault_code.TooManyFunctions [] _ _ (k.clean []) w;
  parameters = omega arith;
  variables = omega arith;
})

-- The function that is being defined stays, unless another begins.

-- two sets of names are of one function, whatever their limits
record AreOfOne (old new : Scope) : Type 0 where
  pub number : new.number ≡ old.number
  pub functions : length old.functions ≤ length new.functions

one : (new : Bool) (old more : Scope) → AreOfOne old more → AreOfOne old (if new then more else old)
one true old more h = h
one false old more h = record { number = refl; functions = le_refl (length old.functions) }

as_many : (new : Bool) (old more : Scope) → more.current.parameters ≡ old.current.parameters →
    (if new then more else old).current.parameters ≡ old.current.parameters
as_many true old more e = e
as_many false old more e = refl

stays : (role : Role) (name : List ℕ) (line : ℕ) (old new : Scope) → LearnsName role name line old new →
    AreOfOne old new →
    StaysIn old new
stays role name line old new k h =
    record { number = h.number; functions = h.functions; within = within role name line old new k }

local_stays : (role : Role) (new : Bool) (name : List ℕ) (line : ℕ) (old after : Scope) →
    after ≡ (if new then with_variable name old else old) →
    LearnsName role name line old after → StaysInBody old after
local_stays role new name line old after is k = record {
  function = stays role name line old after k
      (rw is
      (one new old (with_variable name old) (record { number = refl; functions = le_refl (length old.functions) })));
  parameters = rw is (as_many new old (with_variable name old) refl);
}

external_stays : (new : Bool) (name : List ℕ) (line : ℕ) (old after : Scope) →
    after ≡ (if new then with_external name old else old) →
    LearnsName External name line old after → StaysInBody old after
external_stays new name line old after is k = record {
  function = stays External name line old after k
      (rw is
      (one new old (with_external name old) (record { number = refl; functions = le_refl (length old.functions) })));
  parameters = rw is (as_many new old (with_external name old) refl);
}

typed_stays : (name : List ℕ) (line : ℕ) (old after : Scope) → after ≡ old → LearnsName Typed name line old after →
    StaysInBody old after
typed_stays name line old after is k = record {
  function = stays Typed name line old after k
      (rw is (record { number = refl; functions = le_refl (length old.functions) }));
  parameters = rw is refl;
}

parameter_stays : (new : Bool) (name : List ℕ) (line : ℕ) (old after : Scope) →
    after ≡ (if new then with_parameter name old else old) →
    LearnsName Parameter name line old after → StaysIn old after
parameter_stays new name line old after is k =
    stays Parameter name line old after k
    (rw is
    (one new old (with_parameter name old)
    (record { number = refl; functions = le_refl (length old.functions) })))

function_stays : (new : Bool) (name : List ℕ) (line : ℕ) (old after : Scope) →
    after ≡ (if new then with_new_function name line old else old) →
    LearnsName Called name line old after → StaysInBody old after
function_stays new name line old after is k =
    let more : length (old.functions ++ only_named name ∷ []) ≡ length old.functions + 1 =
    longer old.functions (only_named name) in
    let own : AreOfOne old (with_new_function name line old) =
    record { number = refl; functions = omega (arith, more) } in
    record {
      function = stays Called name line old after k (rw is (one new old (with_new_function name line old) own));
      parameters = rw is (as_many new old (with_new_function name line old) refl);
    }

-- a name is declared
pub declared_stays : (declared : Declared) (name : List ℕ) (line : ℕ) (old new : Scope) →
    LearnsName (role_of declared) name line old new → StaysAt declared old new
declared_stays kind.Externals name line old new k =
    external_stays (is_external_new name old) name line old new k.behind k
declared_stays kind.Parameters name line old new k =
    parameter_stays (is_local_new name old) name line old new k.behind k
declared_stays kind.TypedParameters name line old new k = typed_stays name line old new k.behind k
declared_stays kind.Locals name line old new k = local_stays Local (is_local_new name old) name line old new k.behind k

-- a variable is mentioned
pub mentioned_stays : (name : List ℕ) (line : ℕ) (old new : Scope) → LearnsName Mentioned name line old new →
    StaysInBody old new
mentioned_stays name line old new k = local_stays Mentioned (is_variable_new name old) name line old new k.behind k

-- a function is called
pub called_stays : (name : List ℕ) (line : ℕ) (old new : Scope) → LearnsName Called name line old new →
    StaysInBody old new
called_stays name line old new k = function_stays (is_function_new name old) name line old new k.behind k

-- another definition begins
pub begins : (number : ℕ) (name : List ℕ) (line : ℕ) (old new : Lookahead) (learnt : Scope) →
    LearnsName Defined name line old.scope learnt → new.scope ≡ learnt →
    number ≡ number_or_next name old.scope → number < most_names → BeginsDefinition number old new
begins number name line old new learnt k same is few =
    let own : is_intrinsic name ≡ false =
    (first (is_intrinsic name) (has_begun name old.scope) _ _ _ (k.clean [])).other in
    record {
      is = rw (same, k.behind) (sym is);
      few = few;
      mentioned = rw (same, k.behind, is) (number_in name line old.scope own);
      within = λ w. rw same (within Defined name line old.scope learnt k w);
    }

-- One call after another.

pub stays_then : (a b c : Scope) → StaysIn a b → StaysIn b c → StaysIn a c
stays_then a b c h i = record {
  number = i.number ∙ h.number;
  functions = le_trans h.functions i.functions;
  within = λ w. i.within (h.within w);
}

pub stays_body : (scope : Scope) → StaysInBody scope scope
stays_body scope =
    record {
      function = record { number = refl; functions = le_refl (length scope.functions); within = λ w. w };
      parameters = refl;
    }

pub stays_body_then : (a b c : Scope) → StaysInBody a b → StaysInBody b c → StaysInBody a c
stays_body_then a b c h i =
    record { function = stays_then a b c h.function i.function; parameters = i.parameters ∙ h.parameters }

pub stays_at_then : (declared : Declared) (a b c : Scope) → StaysAt declared a b → StaysAt declared b c →
    StaysAt declared a c
stays_at_then kind.Externals a b c h i = stays_body_then a b c h i
stays_at_then kind.Parameters a b c h i = stays_then a b c h i
stays_at_then kind.TypedParameters a b c h i = stays_body_then a b c h i
stays_at_then kind.Locals a b c h i = stays_body_then a b c h i
