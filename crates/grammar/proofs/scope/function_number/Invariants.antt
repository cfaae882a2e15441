use Rattle.grammar.specs.Laws.Index.{NoFunctionBefore}
use Rattle.grammar.proofs.scope.function_number.Given as goal

-- no function so far has the name
abbrev pub invariant-loop-number : goal.invariant-loop-number
invariant-loop-number l = NoFunctionBefore l.number l.name l.functions
