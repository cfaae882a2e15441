-- Whether each function is defined.
use Rattle.std.specs.Prelude.{ℕ, ◌≡◌, true, false, Some, None, is_some}
use Rattle.grammar.specs.declared.diagnostics.Code.TheVariants as fault_code
use Rattle.grammar.specs.declared.diagnostics.ParseFault.{ParseFault}
use Rattle.grammar.specs.declared.diagnostics.ParseFault.TheVariants as parse_fault
use Rattle.grammar.specs.Compiled.{diagnostic, main_name}
use Rattle.grammar.specs.Laws.Naming.{line_of_undefined}
use Rattle.grammar.specs.Scope.{Scope, function_number}
use Rattle.parser.specs.ScopedCursors.{Lookahead}

-- Each function that was mentioned is defined, and main is among them.
pub record IsComplete (scope : Scope) : Type 0 where
  pub defined : line_of_undefined 0 scope.lines scope.begun ≡ None
  pub main : is_some (function_number main_name scope) ≡ true

-- A function is not defined, or else there is no main function.
pub data LacksDefinition (position : Lookahead) (fault : ParseFault) : Type 0 where
  ADefinition : (line : ℕ) → line_of_undefined 0 position.scope.lines position.scope.begun ≡ Some line →
      fault ≡ parse_fault.Source (diagnostic line fault_code.FunctionNotDefined) → LacksDefinition position fault
  AMain : line_of_undefined 0 position.scope.lines position.scope.begun ≡ None →
      is_some (function_number main_name position.scope) ≡ false →
      fault ≡ parse_fault.Source (diagnostic position.cursor.next.line fault_code.NoMainFunction) →
      LacksDefinition position fault
