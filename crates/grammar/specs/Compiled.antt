-- What a source is: a file, or its first fault.
use Rattle.std.specs.Prelude.{ℕ, ◌+◌, ◌*◌, List, [], ◌∷◌, length, Option, Some, None, Result, Ok, Err, codes, map}
use Rattle.std.specs.Prelude.{if◌then◌else◌, ◌==◌}
use Rattle.tokens.specs.Tokens.{tokens}
use Rattle.tokens.specs.declared.located_tokens.LocatedToken.{LocatedToken}
use Rattle.grammar.specs.declared.diagnostics.Code.{Code}
use Rattle.grammar.specs.declared.diagnostics.Code.TheVariants as fault_code
use Rattle.grammar.specs.declared.diagnostics.Diagnostic.{Diagnostic}
use Rattle.grammar.specs.Derivation.{State, Definition, initial_state, derived, line_at}
use Rattle.grammar.specs.Faults.{Fault, faults_in, first_fault}
use Rattle.grammar.specs.Profile.{Profile}
use Rattle.grammar.specs.Scope.{Scope, function_number}
use Rattle.grammar.specs.Tree.{Function, File}

abbrev pub diagnostic : ℕ → Code → Diagnostic
diagnostic line c = record { line = line; code = c }

abbrev pub last_line : List LocatedToken → ℕ
last_line [] = 1
last_line (located_token ∷ []) = located_token.line
last_line (located_token ∷ other ∷ rest) = last_line (other ∷ rest)

abbrev pub defined_as : ℕ → List Definition → Option Function
defined_as number [] = None
defined_as number (d ∷ ds) = if d.number == number then Some d.function else defined_as number ds

abbrev pub in_front : Option Function → ℕ → Result (List Function) ℕ → Result (List Function) ℕ
in_front None line others = Err line
in_front (Some f) line (Ok functions) = Ok (f ∷ functions)
in_front (Some f) line (Err other) = Err other

-- the functions from this number on, or the line on which the first that isn't defined was first mentioned
abbrev pub all_defined : ℕ → List ℕ → List Definition → Result (List Function) ℕ
all_defined number [] definitions = Ok []
all_defined number (line ∷ lines) definitions = in_front (defined_as number definitions) line
    (all_defined (number + 1) lines definitions)

abbrev pub main_name : List ℕ
main_name = codes "main"

abbrev pub order_of : List Definition → List ℕ
order_of definitions = map (λ (d : Definition). d.number) definitions

-- each function that is mentioned must be there, and a function main
abbrev pub file_of : ℕ → Scope → List ℕ → Result (List Function) ℕ → Option ℕ → Result File Diagnostic
file_of last scope order (Err line) main = Err (diagnostic line fault_code.FunctionNotDefined)
file_of last scope order (Ok functions) None = Err (diagnostic last fault_code.NoMainFunction)
file_of last scope order (Ok functions) (Some main) =
    Ok (record { externals = scope.externals; functions = functions; order = order; main = main })

module _ (located_tokens : List LocatedToken) where
  abbrev pub resolved : Scope → List Definition → Result File Diagnostic
  resolved scope definitions =
      file_of (last_line located_tokens) scope (order_of definitions) (all_defined 0 scope.lines definitions)
      (function_number main_name scope)

  -- the first of the faults, or the file if there is none
  abbrev pub verdict : List Fault → Scope → List Definition → Result File Diagnostic
  verdict [] scope definitions = resolved scope definitions
  verdict (f ∷ faults) scope definitions =
      let first = first_fault f faults in Err (diagnostic (line_at first.rest) first.code)

  -- By then the derivation has ended: the law `EachDerivationEnds` (`Laws.antt`). So the two numbers decide nothing.
  abbrev pub enough_steps : ℕ
  enough_steps = 40 * length located_tokens + 71

  abbrev pub last_state : State
  last_state = derived enough_steps (initial_state located_tokens)

abbrev pub all_faults : Profile → List LocatedToken → List Fault
all_faults profile located_tokens = faults_in profile (enough_steps located_tokens) (initial_state located_tokens)

abbrev pub compiled_tokens : Profile → List LocatedToken → Result File Diagnostic
compiled_tokens profile located_tokens =
    verdict located_tokens (all_faults profile located_tokens) (last_state located_tokens).scope
    (last_state located_tokens).functions

unfoldable pub compiled : Profile → List ℕ → Result File Diagnostic
compiled profile bytes = compiled_tokens profile (tokens bytes)
