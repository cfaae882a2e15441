-- The names that are in scope at a point of a source, and what each names there.
use Rattle.std.specs.Prelude.{ℕ, List, [], ◌∷◌, ◌++◌, Bool, Option, Some, None, map, length, set, unwrap_or, is_none}
use Rattle.std.specs.Prelude.{if◌then◌else◌, ◌+◌, ◌==◌}
use Rattle.std.specs.List.{position, list_any}
use Rattle.std.specs.Option.{option_map, option_or}
use Rattle.std.specs.Str.{bytes_eq}
use Rattle.grammar.specs.declared.resolved_names.Callee.{Callee}
use Rattle.grammar.specs.declared.resolved_names.Callee.TheVariants as callee
use Rattle.grammar.specs.declared.resolved_names.Intrinsic.{Intrinsic}
use Rattle.grammar.specs.declared.resolved_names.Var.{Var}
use Rattle.grammar.specs.declared.resolved_names.Var.TheVariants as var
use Rattle.grammar.specs.Grammar.{Role, Defined, External, Parameter, Typed, Local, Called, Mentioned}
use Rattle.grammar.specs.Intrinsics.{intrinsic_named, is_intrinsic}
use Rattle.grammar.specs.Pools.{FunctionNames}

pub record Scope : Type 0 where
  pub externals : List (List ℕ)  -- the externals declared
  pub functions : List FunctionNames  -- the functions mentioned; one whose definition hasn't ended has a name alone
  pub lines : List ℕ  -- the line of each one's first mention
  pub begun : List ℕ  -- the numbers of those whose definition began, in file order
  pub number : ℕ  -- the number of the function that is being defined
  pub current : FunctionNames  -- its name, and its parameters and variables so far

-- a function without variables
abbrev pub only_named : List ℕ → FunctionNames
only_named name = record { name = name; parameters = 0; variables = [] }

-- before a file's first token
abbrev pub no_names : Scope
no_names = record { externals = []; functions = []; lines = []; begun = []; number = 0; current = only_named [] }

abbrev pub number_of_name : List ℕ → List (List ℕ) → Option ℕ
number_of_name name names = position (bytes_eq name) names

abbrev pub callee_or : Option Intrinsic → ℕ → Callee
callee_or None number = callee.Function number
callee_or (Some i) number = callee.Intrinsic i

module _ (name : List ℕ) (scope : Scope) where
  abbrev pub function_number : Option ℕ
  function_number = number_of_name name (map (λ (f : FunctionNames). f.name) scope.functions)

  -- the variable of a name: one of the function's, or else an external
  abbrev pub variable_named : Option Var
  variable_named =
      option_or (option_map var.Local (number_of_name name scope.current.variables))
      (option_map var.External (number_of_name name scope.externals))

  -- a name of neither is the function's next local
  abbrev pub variable_of : Var
  variable_of = unwrap_or variable_named (var.Local (length scope.current.variables))

  abbrev pub is_variable_new : Bool
  is_variable_new = is_none variable_named

  abbrev pub is_local_new : Bool
  is_local_new = is_none (number_of_name name scope.current.variables)

  abbrev pub is_external_new : Bool
  is_external_new = is_none (number_of_name name scope.externals)

  -- a function of the file that wasn't mentioned before
  abbrev pub is_function_new : Bool
  is_function_new = if is_intrinsic name then Bool.false else is_none function_number

  -- a new function has the next number
  abbrev pub number_or_next : ℕ
  number_or_next = unwrap_or function_number (length scope.functions)

  abbrev pub callee_of : Callee
  callee_of = callee_or (intrinsic_named name) number_or_next

  abbrev pub has_begun : Bool
  has_begun = list_any (λ k. k == number_or_next) scope.begun

  -- the numbers of the definitions begun, with this one; an intrinsic function has no number
  abbrev pub begun_with : List ℕ
  begun_with = if is_intrinsic name then scope.begun else scope.begun ++ number_or_next ∷ []

  abbrev pub with_external : Scope
  with_external = record scope { externals = scope.externals ++ name ∷ [] }

  abbrev pub with_variable : Scope
  with_variable = record scope {
    current = record scope.current { variables = scope.current.variables ++ name ∷ [] };
  }

  abbrev pub with_parameter : Scope
  with_parameter = record scope {
    current = record scope.current {
      parameters = scope.current.parameters + 1;
      variables = scope.current.variables ++ name ∷ [];
    };
  }

abbrev pub with_new_function : List ℕ → ℕ → Scope → Scope
with_new_function name line scope = record scope
    { functions = scope.functions ++ only_named name ∷ []; lines = scope.lines ++ line ∷ [] }

-- a function is mentioned on a line
abbrev pub with_function : List ℕ → ℕ → Scope → Scope
with_function name line scope = if is_function_new name scope then with_new_function name line scope else scope

-- a definition begins: the function is mentioned, and has no variables yet
abbrev pub begin_definition : List ℕ → ℕ → Scope → Scope
begin_definition name line scope =
    record (with_function name line scope) {
      begun = begun_with name scope;
      number = number_or_next name scope;
      current = only_named name;
    }

-- it ends: the function keeps its parameters and variables
abbrev pub end_definition : Scope → Scope
end_definition scope = record scope {
  functions = set scope.functions scope.number scope.current;
  current = only_named [];
}

abbrev pub scope_after_name : Role → List ℕ → ℕ → Scope → Scope
scope_after_name Defined name line scope = begin_definition name line scope
scope_after_name External name line scope = if is_external_new name scope then with_external name scope else scope
scope_after_name Parameter name line scope = if is_local_new name scope then with_parameter name scope else scope
scope_after_name Typed name line scope = scope
scope_after_name Local name line scope = if is_local_new name scope then with_variable name scope else scope
scope_after_name Called name line scope = with_function name line scope
scope_after_name Mentioned name line scope = if is_variable_new name scope then with_variable name scope else scope
