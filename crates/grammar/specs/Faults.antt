-- The faults of a source, and the first of them.
use Rattle.std.specs.Prelude.{ℕ, zero, suc, ◌+◌, List, [], ◌∷◌, ◌++◌, Bool, true, false, Option, Some, None, length}
use Rattle.std.specs.Prelude.{nat_lt, nat_le, if◌then◌else◌}
use Rattle.tokens.specs.declared.located_tokens.LexicalError.{LexicalError}
use Rattle.tokens.specs.declared.located_tokens.LexicalError.TheVariants as lexical_error
use Rattle.tokens.specs.declared.located_tokens.LocatedToken.{LocatedToken}
use Rattle.tokens.specs.declared.located_tokens.Token.{Token}
use Rattle.tokens.specs.declared.located_tokens.Token.TheVariants as token
use Rattle.tokens.specs.declared.located_tokens.Keyword.TheVariants as keyword
use Rattle.grammar.specs.declared.diagnostics.Code.{Code}
use Rattle.grammar.specs.declared.diagnostics.Code.TheVariants as fault_code
use Rattle.grammar.specs.CodeLengths.{function_length}
use Rattle.grammar.specs.Derivation.{State, Definition, definition_of, last_body, stack_step, stepped, next_token}
use Rattle.grammar.specs.Derivation.{token_after_next, name_of_token}
use Rattle.grammar.specs.Grammar.{Item, AName, Part, Make, Close, Define, Symbol, Role, Defined, External, Parameter}
use Rattle.grammar.specs.Grammar.{Typed, Local, Called, Mentioned, is_lexical_error, enters}
use Rattle.grammar.specs.Intrinsics.{is_intrinsic}
use Rattle.grammar.specs.NameLimits.{most_nested, most_names}
use Rattle.grammar.specs.Profile.{Profile}
use Rattle.grammar.specs.Scope.{Scope, has_begun, is_external_new, is_function_new, is_local_new, is_variable_new}

-- a fault: the tokens from its token on, and its code
pub record Fault : Type 0 where
  pub rest : List LocatedToken
  pub code : Code

abbrev pub fault : List LocatedToken → Code → Fault
fault rest c = record { rest = rest; code = c }

abbrev pub fault_code_number : Code → ℕ
fault_code_number fault_code.BadCharacter = 1
fault_code_number fault_code.CommentNotClosed = 2
fault_code_number fault_code.NameTooLong = 3
fault_code_number fault_code.ConstantTooLarge = 4
fault_code_number fault_code.SourceTooLong = 5
fault_code_number fault_code.SyntaxError = 6
fault_code_number fault_code.ReservedWord = 7
fault_code_number fault_code.NestedTooDeeply = 8
fault_code_number fault_code.TooManyVariables = 9
fault_code_number fault_code.TooManyFunctions = 10
fault_code_number fault_code.FunctionDefinedTwice = 11
fault_code_number fault_code.IntrinsicRedefined = 12
fault_code_number fault_code.BadParameterDeclaration = 13
fault_code_number fault_code.TooMuchCode = 14
fault_code_number fault_code.FunctionNotDefined = 15
fault_code_number fault_code.NoMainFunction = 16

abbrev pub lexical_error_code : LexicalError → Code
lexical_error_code lexical_error.BadCharacter = fault_code.BadCharacter
lexical_error_code lexical_error.CommentNotClosed = fault_code.CommentNotClosed
lexical_error_code lexical_error.NameTooLong = fault_code.NameTooLong
lexical_error_code lexical_error.ConstantTooLarge = fault_code.ConstantTooLarge
lexical_error_code lexical_error.SourceTooLong = fault_code.SourceTooLong

abbrev pub unexpected_token_code : Token → Code
unexpected_token_code (token.Fault f) = lexical_error_code f
unexpected_token_code (token.Keyword keyword.Refused) = fault_code.ReservedWord
unexpected_token_code next = fault_code.SyntaxError

-- how many nested productions are not done
abbrev pub nested_count : List Item → ℕ
nested_count [] = 0
nested_count (Close ∷ stack) = nested_count stack + 1
nested_count (item ∷ stack) = nested_count stack

abbrev pub only_if : Bool → List Fault → List Fault
only_if b faults = if b then faults else []

abbrev pub nesting_faults : Symbol → State → List Fault
nesting_faults symbol s =
    only_if (enters symbol (next_token s.rest) (token_after_next s.rest))
    (only_if (nat_le most_nested (nested_count s.stack)) (fault s.rest fault_code.NestedTooDeeply ∷ []))

-- a new name for which there is no room after this many
abbrev pub no_room : Bool → ℕ → Code → List LocatedToken → List Fault
no_room new count c rest = only_if new (only_if (nat_le most_names count) (fault rest c ∷ []))

-- a definition of an intrinsic function, a second one, or one function too many
abbrev pub definition_faults : List ℕ → Scope → List LocatedToken → List Fault
definition_faults name scope rest =
    if is_intrinsic name then fault rest fault_code.IntrinsicRedefined ∷ []
    else (if has_begun name scope then fault rest fault_code.FunctionDefinedTwice ∷ []
    else no_room (is_function_new name scope) (length scope.functions) fault_code.TooManyFunctions rest)

-- a parameter in the list: a name that is there already, or one variable too many
abbrev pub parameter_faults : List ℕ → Scope → List LocatedToken → List Fault
parameter_faults name scope rest =
    if is_local_new name scope then no_room true (length scope.current.variables) fault_code.TooManyVariables rest
    else fault rest fault_code.BadParameterDeclaration ∷ []

abbrev pub role_faults : Role → List ℕ → Scope → List LocatedToken → List Fault
role_faults Defined name scope rest = definition_faults name scope rest
role_faults External name scope rest = no_room (is_external_new name scope) (length scope.externals)
    fault_code.TooManyVariables rest
role_faults Parameter name scope rest = parameter_faults name scope rest
role_faults Typed name scope rest =
    only_if (is_local_new name scope) (fault rest fault_code.BadParameterDeclaration ∷ [])
role_faults Local name scope rest = no_room (is_local_new name scope) (length scope.current.variables)
    fault_code.TooManyVariables rest
role_faults Called name scope rest = no_room (is_function_new name scope) (length scope.functions)
    fault_code.TooManyFunctions rest
role_faults Mentioned name scope rest = no_room (is_variable_new name scope) (length scope.current.variables)
    fault_code.TooManyVariables rest

abbrev pub name_faults : Role → Option (List ℕ) → Scope → List LocatedToken → List Fault
name_faults role None scope rest = []
name_faults role (Some name) scope rest = role_faults role name scope rest

abbrev pub unexpected_token : List LocatedToken → List Fault
unexpected_token rest = fault rest (unexpected_token_code (next_token rest)) ∷ []

-- if something is still to derive, and no step leads on
abbrev pub unexpected_tokens : List Item → List LocatedToken → Option State → List Fault
unexpected_tokens [] rest next = []
unexpected_tokens (item ∷ stack) rest None = unexpected_token rest
unexpected_tokens (item ∷ stack) rest (Some s) = []

module _ (profile : Profile) where
  abbrev pub definitions_length : List Definition → ℕ
  definitions_length [] = 0
  definitions_length (d ∷ ds) = function_length profile d.function + definitions_length ds

  -- these and the last NOP pass the limit
  abbrev pub is_too_long : List Definition → Bool
  is_too_long functions = nat_lt profile.instructions (definitions_length functions + 1)

  -- with the function that is about to be defined, at its closing brace
  abbrev pub length_faults : State → List Fault
  length_faults s =
      only_if (is_too_long (s.functions ++ definition_of s.scope (last_body s.values) ∷ []))
      (fault s.rest fault_code.TooMuchCode ∷ [])

  -- the faults at the first item; the state has the items after it
  abbrev pub item_faults : Item → State → List Fault
  item_faults (Part symbol) s = nesting_faults symbol s
  item_faults (AName role) s = name_faults role (name_of_token (next_token s.rest)) s.scope s.rest
  item_faults (Make Define) s = length_faults s
  item_faults item s = []

  abbrev pub stack_faults : List Item → State → List Fault
  stack_faults [] s = []
  stack_faults (item ∷ stack) s = item_faults item (record s { stack = stack })

  -- at one state of a derivation
  abbrev pub faults_at : State → List Fault
  faults_at s =
      if is_lexical_error (next_token s.rest) then unexpected_token s.rest
      else stack_faults s.stack s ++ unexpected_tokens s.stack s.rest (stack_step s.stack s)

  -- at the first n states
  abbrev pub faults_in : ℕ → State → List Fault
  faults_in zero s = []
  faults_in (suc n) s = faults_at s ++ faults_in n (stepped s)

-- f is at an earlier token than g, or at the same one with a code that isn't greater
abbrev pub is_first : Fault → Fault → Bool
is_first f g =
    if nat_lt (length g.rest) (length f.rest) then true
    else (if nat_lt (length f.rest) (length g.rest) then false
    else nat_le (fault_code_number f.code) (fault_code_number g.code))

abbrev pub first_fault : Fault → List Fault → Fault
first_fault f [] = f
first_fault f (g ∷ faults) = first_fault (if is_first f g then f else g) faults
