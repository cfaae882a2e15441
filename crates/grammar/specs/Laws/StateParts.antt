-- A state of its parts.
use Rattle.std.specs.Prelude.{List}
use Rattle.tokens.specs.declared.located_tokens.LocatedToken.{LocatedToken}
use Rattle.grammar.specs.Grammar.{Item}
use Rattle.grammar.specs.Scope.{Scope}
use Rattle.grammar.specs.Derivation.{State, PartialTree, Definition}

abbrev pub state : List Item → List LocatedToken → List PartialTree → Scope → List Definition → State
state stack rest values scope functions = record
    { stack = stack; rest = rest; values = values; scope = scope; functions = functions }
