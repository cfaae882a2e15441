-- What the names of a list are declared as, as a role of the grammar.
use Rattle.grammar.specs.Grammar.{Role, External, Parameter, Typed, Local}
use Rattle.parser.specs.declared.roles.Declared.{Declared}
use Rattle.parser.specs.declared.roles.Declared.TheVariants as kind

abbrev pub role_of : Declared → Role
role_of kind.Externals = External
role_of kind.Parameters = Parameter
role_of kind.TypedParameters = Typed
role_of kind.Locals = Local
