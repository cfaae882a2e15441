-- The names in scope agree with what was said of them.
use Rattle.std.proofs.Common.{◌≡◌, ℕ, ◌+◌, List, [], ◌∷◌, ◌++◌, refl, sym, ap, ◌∙◌, Bool, true, false, ◌&&◌, append-nil, length, map}
use Rattle.std.proofs.lemmas.List.{length-map}
use Rattle.std.specs.Option.{option_map, option_or}
use Rattle.std.specs.Prelude.{Option, Some, None, not, is_none, unwrap_or, slice_get, if◌then◌else◌}
use Rattle.grammar.specs.declared.resolved_names.Intrinsic.{Intrinsic}
use Rattle.grammar.specs.declared.resolved_names.Var.TheVariants as var
use Rattle.grammar.specs.Grammar.{Role, Defined, External, Parameter, Typed, Local, Called, Mentioned}
use Rattle.grammar.specs.Intrinsics.{intrinsic_named, is_intrinsic}
use Rattle.grammar.specs.Pools.{FunctionNames}
use Rattle.grammar.specs.Scope.{Scope, no_names, scope_after_name, end_definition, number_of_name, function_number, variable_of, is_variable_new, is_function_new, number_or_next, callee_of, callee_or, with_function, with_new_function, with_variable, with_parameter, with_external, only_named}
use Rattle.grammar_laws.specs.Numbering.{Says, Ends, History, IsVariableOf, IsCalleeOf, is_among, distinct, unless, external_names, own_names, parameter_count, defined_name, function_names}
use Rattle.grammar_laws.proofs.Distinct.{among_distinct, distinct_last, number_found, missing, get_last}

-- Names to which one comes.

-- one that is new is added
added : (names said : List (List ℕ)) (name : List ℕ) → names ≡ distinct said →
    (if is_none (number_of_name name names) then names ++ name ∷ [] else names) ≡ distinct (said ++ name ∷ [])
added names said name e = by (is_among name said) refl
  where
    new : is_none (number_of_name name names) ≡ not (is_among name said)
    new = missing name names ∙ ap (λ ns. not (is_among name ns)) e ∙ ap not (among_distinct name said)

    by : (b : Bool) → is_among name said ≡ b →
        (if is_none (number_of_name name names) then names ++ name ∷ [] else names) ≡ distinct (said ++ name ∷ [])
    by true is = rw (new, is) (e ∙ sym (distinct_last said name ∙ rw is refl))
    by false is = rw (new, is) (ap (λ ns. ns ++ name ∷ []) e ∙ sym (distinct_last said name ∙ rw is refl))

-- Variables.

pub record Agrees (h : History) (scope : Scope) : Type 0 where
  pub externals : scope.externals ≡ distinct (external_names h)
  pub variables : scope.current.variables ≡ distinct (own_names h)
  pub parameters : scope.current.parameters ≡ parameter_count h
  pub name : scope.current.name ≡ defined_name h

pub agrees_first : Agrees [] no_names
agrees_first = record { externals = refl; variables = refl; parameters = refl; name = refl }

kept_if : (b : Bool) (more scope : Scope) → more.externals ≡ scope.externals → more.current ≡ scope.current →
    ((if b then more else scope).externals ≡ scope.externals) × ((if b then more else scope).current ≡ scope.current)
kept_if true more scope e f = (e, f)
kept_if false more scope e f = (refl, refl)

external_more : (b : Bool) (name : List ℕ) (scope : Scope) →
    (if b then with_external name scope else scope).externals ≡
    (if b then scope.externals ++ name ∷ [] else scope.externals)
external_more true name scope = refl
external_more false name scope = refl

external_current : (b : Bool) (name : List ℕ) (scope : Scope) →
    (if b then with_external name scope else scope).current ≡ scope.current
external_current true name scope = refl
external_current false name scope = refl

-- a scope with a variable more if it is new
record HasVariable (b : Bool) (name : List ℕ) (scope more : Scope) : Type 0 where
  externals : more.externals ≡ scope.externals
  variables : more.current.variables ≡ (if b then scope.current.variables ++ name ∷ [] else scope.current.variables)
  defines : more.current.name ≡ scope.current.name

has_variable : (b : Bool) (name : List ℕ) (scope : Scope) →
    HasVariable b name scope (if b then with_variable name scope else scope)
has_variable true name scope = record { externals = refl; variables = refl; defines = refl }
has_variable false name scope = record { externals = refl; variables = refl; defines = refl }

has_parameter : (b : Bool) (name : List ℕ) (scope : Scope) →
    HasVariable b name scope (if b then with_parameter name scope else scope)
has_parameter true name scope = record { externals = refl; variables = refl; defines = refl }
has_parameter false name scope = record { externals = refl; variables = refl; defines = refl }

variable_parameters : (b : Bool) (name : List ℕ) (scope : Scope) →
    (if b then with_variable name scope else scope).current.parameters ≡ scope.current.parameters
variable_parameters true name scope = refl
variable_parameters false name scope = refl

parameter_more : (b : Bool) (name : List ℕ) (scope : Scope) →
    (if not b then with_parameter name scope else scope).current.parameters ≡
    (if b then scope.current.parameters else scope.current.parameters + 1)
parameter_more true name scope = refl
parameter_more false name scope = refl

-- whether a name represents no variable
variable_new : (name : List ℕ) (scope : Scope) →
    is_variable_new name scope ≡
    (is_none (number_of_name name scope.current.variables) && is_none (number_of_name name scope.externals))
variable_new name scope = by (number_of_name name scope.current.variables) (number_of_name name scope.externals)
  where
    by : (o p : Option ℕ) →
        is_none (option_or (option_map var.Local o) (option_map var.External p)) ≡ (is_none o && is_none p)
    by (Some k) p = refl
    by None (Some k) = refl
    by None None = refl

among_externals : (name : List ℕ) (h : History) (scope : Scope) → Agrees h scope →
    is_none (number_of_name name scope.externals) ≡ not (is_among name (external_names h))
among_externals name h scope a =
    missing name scope.externals ∙ ap (λ ns. not (is_among name ns)) a.externals ∙
    ap not (among_distinct name (external_names h))

among_variables : (name : List ℕ) (h : History) (scope : Scope) → Agrees h scope →
    is_none (number_of_name name scope.current.variables) ≡ not (is_among name (own_names h))
among_variables name h scope a =
    missing name scope.current.variables ∙ ap (λ ns. not (is_among name ns)) a.variables ∙
    ap not (among_distinct name (own_names h))

-- what a mention adds
mentioned : (name : List ℕ) (h : History) (scope : Scope) → Agrees h scope →
    (if is_variable_new name scope then scope.current.variables ++ name ∷ [] else scope.current.variables) ≡
    distinct (own_names h ++ unless (is_among name (external_names h)) name)
mentioned name h scope a =
    rw (variable_new name scope, among_externals name h scope a) (by (is_among name (external_names h)))
  where
    none : (b : Bool) → (b && false) ≡ false
    none true = refl
    none false = refl

    all : (b : Bool) → (b && true) ≡ b
    all true = refl
    all false = refl

    by : (b : Bool) →
        (if is_none (number_of_name name scope.current.variables) && not b then scope.current.variables ++ name ∷
        [] else scope.current.variables) ≡ distinct (own_names h ++ unless b name)
    by true = rw (none (is_none (number_of_name name scope.current.variables)), append-nil (own_names h)) a.variables
    by false =
        rw (all (is_none (number_of_name name scope.current.variables)))
        (added scope.current.variables (own_names h) name a.variables)

function_kept : (name : List ℕ) (line : ℕ) (scope : Scope) →
    ((with_function name line scope).externals ≡ scope.externals) ×
    ((with_function name line scope).current ≡ scope.current)
function_kept name line scope = kept_if (is_function_new name scope) (with_new_function name line scope) scope refl refl

pub agrees_named : (role : Role) (name : List ℕ) (line : ℕ) (h : History) (scope : Scope) → Agrees h scope →
    Agrees (Says role name ∷ h) (scope_after_name role name line scope)
agrees_named Defined name line h scope a = record {
  externals = (function_kept name line scope).0 ∙ a.externals;
  variables = refl;
  parameters = refl;
  name = refl;
}
agrees_named External name line h scope a =
    let b : Bool = is_none (number_of_name name scope.externals) in
    record {
      externals = external_more b name scope ∙ added scope.externals (external_names h) name a.externals;
      variables = ap (λ (f : FunctionNames). f.variables) (external_current b name scope) ∙ a.variables;
      parameters = ap (λ (f : FunctionNames). f.parameters) (external_current b name scope) ∙ a.parameters;
      name = ap (λ (f : FunctionNames). f.name) (external_current b name scope) ∙ a.name;
    }
agrees_named Parameter name line h scope a =
    let b : Bool = is_none (number_of_name name scope.current.variables) in
    let more = has_parameter b name scope in
    record {
      externals = more.externals ∙ a.externals;
      variables = more.variables ∙ added scope.current.variables (own_names h) name a.variables;
      parameters = rw (among_variables name h scope a)
          (parameter_more (is_among name (own_names h)) name scope ∙ rw a.parameters refl);
      name = more.defines ∙ a.name;
    }
agrees_named Typed name line h scope a =
    record { externals = a.externals; variables = a.variables; parameters = a.parameters; name = a.name }
agrees_named Local name line h scope a =
    let b : Bool = is_none (number_of_name name scope.current.variables) in
    let more = has_variable b name scope in
    record {
      externals = more.externals ∙ a.externals;
      variables = more.variables ∙ added scope.current.variables (own_names h) name a.variables;
      parameters = variable_parameters b name scope ∙ a.parameters;
      name = more.defines ∙ a.name;
    }
agrees_named Called name line h scope a =
    let kept = function_kept name line scope in
    record {
      externals = kept.0 ∙ a.externals;
      variables = ap (λ (f : FunctionNames). f.variables) kept.1 ∙ a.variables;
      parameters = ap (λ (f : FunctionNames). f.parameters) kept.1 ∙ a.parameters;
      name = ap (λ (f : FunctionNames). f.name) kept.1 ∙ a.name;
    }
agrees_named Mentioned name line h scope a =
    let more = has_variable (is_variable_new name scope) name scope in
    record {
      externals = more.externals ∙ a.externals;
      variables = more.variables ∙ mentioned name h scope a;
      parameters = variable_parameters (is_variable_new name scope) name scope ∙ a.parameters;
      name = more.defines ∙ a.name;
    }

pub agrees_ended : (h : History) (scope : Scope) → Agrees h scope → Agrees (Ends ∷ h) (end_definition scope)
agrees_ended h scope a = record { externals = a.externals; variables = refl; parameters = refl; name = refl }

-- what a mention means
pub variable_right : (name : List ℕ) (h : History) (scope : Scope) → Agrees h scope →
    IsVariableOf (Says Mentioned name ∷ h) name (variable_of name scope)
variable_right name h scope a =
    by (number_of_name name scope.current.variables) (number_of_name name scope.externals) refl refl
  where
    own : distinct (own_names (Says Mentioned name ∷ h)) ≡
        (if is_variable_new name scope then scope.current.variables ++ name ∷ [] else scope.current.variables)
    own = sym (mentioned name h scope a)

    by : (o p : Option ℕ) → number_of_name name scope.current.variables ≡ o → number_of_name name scope.externals ≡ p →
        IsVariableOf (Says Mentioned name ∷ h) name
        (unwrap_or (option_or (option_map var.Local o) (option_map var.External p))
        (var.Local (length scope.current.variables)))
    by (Some k) p e f =
        ap (λ ns. slice_get ns k) (own ∙ rw (variable_new name scope, e) refl) ∙
        number_found name scope.current.variables k e
    by None (Some k) e f =
        let some : is_among name (external_names h) ≡ true =
        turn (is_among name (external_names h)) (sym (among_externals name h scope a) ∙ rw f refl) in
        let none : is_among name (own_names h) ≡ false =
        back (is_among name (own_names h)) (sym (among_variables name h scope a) ∙ rw e refl) in (
          rw (some, append-nil (own_names h)) none,
          ap (λ ns. slice_get ns k) (sym a.externals) ∙ number_found name scope.externals k f,
        )
      where
        turn : (b : Bool) → not b ≡ false → b ≡ true
        turn true q = refl
        turn false q = absurd (cc)

        back : (b : Bool) → not b ≡ true → b ≡ false
        back true q = absurd (cc)
        back false q = refl
    by None None e f =
        ap (λ ns. slice_get ns (length scope.current.variables)) (own ∙ rw (variable_new name scope, e, f) refl) ∙
        get_last scope.current.variables name

-- Functions.

abbrev pub names_in : Scope → List (List ℕ)
names_in scope = map (λ (f : FunctionNames). f.name) scope.functions

pub map_last : (fs : List FunctionNames) (f : FunctionNames) →
    map (λ (g : FunctionNames). g.name) (fs ++ f ∷ []) ≡ map (λ (g : FunctionNames). g.name) fs ++ f.name ∷ []
map_last [] f = refl
map_last (g ∷ fs) f = ap (λ ns. g.name ∷ ns) (map_last fs f)

-- what a call or a definition adds
pub functions_said : (name : List ℕ) (line : ℕ) (scope : Scope) (said : List (List ℕ)) →
    names_in scope ≡ distinct said →
    names_in (with_function name line scope) ≡ distinct (said ++ unless (is_intrinsic name) name)
functions_said name line scope said e = by (is_intrinsic name)
  where
    more : (b : Bool) →
        names_in (if b then with_new_function name line scope else scope) ≡
        (if b then names_in scope ++ name ∷ [] else names_in scope)
    more true = map_last scope.functions (only_named name)
    more false = refl

    by : (b : Bool) →
        names_in
        (if (if b then false else is_none (function_number name scope)) then with_new_function name line scope else
        scope) ≡ distinct (said ++ unless b name)
    by true = rw (append-nil said) e
    by false = more (is_none (function_number name scope)) ∙ added (names_in scope) said name e

-- the number of a function that has one
pub number_right : (name : List ℕ) (line : ℕ) (scope : Scope) → is_intrinsic name ≡ false →
    slice_get (names_in (with_function name line scope)) (number_or_next name scope) ≡ Some name
number_right name line scope own = rw own (by (function_number name scope) refl)
  where
    by : (o : Option ℕ) → function_number name scope ≡ o →
        slice_get (names_in (if is_none o then with_new_function name line scope else scope))
        (unwrap_or o (length scope.functions)) ≡ Some name
    by (Some k) e = number_found name (names_in scope) k e
    by None e =
        ap (λ ns. slice_get ns (length scope.functions)) (map_last scope.functions (only_named name)) ∙
        ap (slice_get (names_in scope ++ name ∷ [])) long ∙ get_last (names_in scope) name
      where
        long : length scope.functions ≡ length (names_in scope)
        long = sym (length-map scope.functions (λ (f : FunctionNames). f.name))

-- what a call means
pub callee_right : (name : List ℕ) (h : History) (scope : Scope) → names_in scope ≡ distinct (function_names h) →
    IsCalleeOf (Says Called name ∷ h) name (callee_of name scope)
callee_right name h scope e = by (intrinsic_named name) refl
  where
    by : (o : Option Intrinsic) → intrinsic_named name ≡ o →
        IsCalleeOf (Says Called name ∷ h) name (callee_or o (number_or_next name scope))
    by (Some i) is = is
    by None is =
        let own : is_intrinsic name ≡ false = rw is refl in (
          own,
          ap (λ ns. slice_get ns (number_or_next name scope)) (sym (functions_said name 0 scope (function_names h) e)) ∙
              number_right name 0 scope own,
        )
