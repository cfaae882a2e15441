-- What a source is if its derivation matched all tokens without a fault.
use Rattle.std.specs.Prelude.{◌≡◌, ℕ, List, [], Some, None, Ok, Err, true, false}
use Rattle.std.specs.Option.{is_some}
use Rattle.tokens.specs.declared.located_tokens.LocatedToken.{LocatedToken}
use Rattle.grammar.specs.declared.diagnostics.Code.TheVariants as fault_code
use Rattle.grammar.specs.Actions.{actions}
use Rattle.grammar.specs.Compiled.{compiled_tokens, diagnostic, last_line, main_name}
use Rattle.grammar.specs.Derivation.{Definition, initial_state}
use Rattle.grammar.specs.Laws.StateParts.{state}
use Rattle.grammar.specs.Beginning.{definitions_actions}
use Rattle.grammar.specs.Laws.Naming.{line_of_undefined}
use Rattle.grammar.specs.Laws.Parsing.{DerivesWithoutFault}
use Rattle.grammar.specs.Pools.{Pools, pools_of}
use Rattle.grammar.specs.Profile.{Profile}
use Rattle.grammar.specs.Resolved.{IsResolved}
use Rattle.grammar.specs.Scope.{Scope, function_number}
use Rattle.grammar.specs.Tree.{File}

-- the derivation leads from the first token to the end, and nothing is left to match or to do
abbrev pub PassesAll : Profile → List LocatedToken → Scope → List Definition → Type 0
PassesAll profile located_tokens scope ds =
    DerivesWithoutFault profile (initial_state located_tokens) (state [] [] [] scope ds)

-- the names of externals and functions that are in scope
abbrev pub names_in_scope : Scope → Pools
names_in_scope scope = record { externals = scope.externals; functions = scope.functions }

-- the source is a file: its names are those in scope, and its actions those of the functions as they were defined
pub record IsFinished (profile : Profile) (located_tokens : List LocatedToken) (scope : Scope) (ds : List Definition)
    : Type 0 where
  pub file : File
  pub compiled : compiled_tokens profile located_tokens ≡ Ok file
  pub resolved : IsResolved file
  pub named : names_in_scope scope ≡ pools_of file
  pub main : function_number main_name scope ≡ Some file.main
  pub reported : actions file ≡ definitions_actions ds

-- each function that was mentioned is defined, and main is among them: the source is a file
abbrev pub Finished : Type 0
Finished = (profile : Profile) (located_tokens : List LocatedToken) (scope : Scope) (ds : List Definition)
    → PassesAll profile located_tokens scope ds →
    line_of_undefined 0 scope.lines scope.begun ≡ None → is_some (function_number main_name scope) ≡ true
    → IsFinished profile located_tokens scope ds

-- one isn't: the fault is on the line of its first mention
abbrev pub Undefined : Type 0
Undefined = (profile : Profile) (located_tokens : List LocatedToken) (scope : Scope) (ds : List Definition) (line : ℕ)
    → PassesAll profile located_tokens scope ds →
    line_of_undefined 0 scope.lines scope.begun ≡ Some line
    → compiled_tokens profile located_tokens ≡ Err (diagnostic line fault_code.FunctionNotDefined)

-- main isn't among them: the fault is on the last line
abbrev pub WithoutMain : Type 0
WithoutMain = (profile : Profile) (located_tokens : List LocatedToken) (scope : Scope) (ds : List Definition)
    → PassesAll profile located_tokens scope ds →
    line_of_undefined 0 scope.lines scope.begun ≡ None → is_some (function_number main_name scope) ≡ false →
    compiled_tokens profile located_tokens ≡ Err (diagnostic (last_line located_tokens) fault_code.NoMainFunction)
