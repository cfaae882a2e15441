-- What stays true of the names in scope while a function is defined.
use Rattle.std.specs.Prelude.{◌≡◌, ◌≤◌, length}
use Rattle.grammar.specs.declared.name_limits.TheConstants.{MOST_NAMES}
use Rattle.grammar.specs.Scope.{Scope}
use Rattle.parser.specs.declared.roles.Declared.{Declared}
use Rattle.parser.specs.declared.roles.Declared.TheVariants as kind

-- the functions mentioned and the variables of the function are within their limits, and its parameters are among its
-- variables
pub record IsWithin (scope : Scope) : Type 0 where
  pub functions : length scope.functions ≤ MOST_NAMES
  pub parameters : scope.current.parameters ≤ length scope.current.variables
  pub variables : length scope.current.variables ≤ MOST_NAMES

-- the same function is being defined, none that was mentioned is lost, and limits that were kept are kept
pub record StaysIn (old new : Scope) : Type 0 where
  pub number : new.number ≡ old.number
  pub functions : length old.functions ≤ length new.functions
  pub within : IsWithin old → IsWithin new

-- and it has as many parameters
pub record StaysInBody (old new : Scope) : Type 0 where
  pub function : StaysIn old new
  pub parameters : new.current.parameters ≡ old.current.parameters

-- a name that is declared adds a parameter in the list alone
abbrev pub StaysAt : Declared → Scope → Scope → Type 0
StaysAt kind.Parameters old new = StaysIn old new
StaysAt declared old new = StaysInBody old new
