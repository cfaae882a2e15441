-- A scope of its parts.
use Rattle.std.specs.Prelude.{ℕ, List}
use Rattle.grammar.specs.Pools.{FunctionNames, Pools}
use Rattle.grammar.specs.Scope.{Scope}

abbrev pub scope_with : Pools → List ℕ → List ℕ → ℕ → FunctionNames → Scope
scope_with pools lines begun number current = record {
  externals = pools.externals;
  functions = pools.functions;
  lines = lines;
  begun = begun;
  number = number;
  current = current;
}
