-- Operators by how tightly they bind, as a parser looks for the next one.
use Rattle.std.specs.Prelude.{ℕ, Option, Some, None, nat_le, if◌then◌else◌}
use Rattle.tokens.specs.declared.located_tokens.Token.{Token}
use Rattle.grammar.specs.declared.operators.BinaryOperator.{BinaryOperator}
use Rattle.grammar.specs.Laws.OperatorTokens.{operator_of}

abbrev pub if_from : ℕ → Option BinaryOperator → Option BinaryOperator
if_from n None = None
if_from n (Some b) = if nat_le n b.level then Some b else None

-- the operator that a token spells, if it is of level n or of a tighter one
abbrev pub operator_from : ℕ → Token → Option BinaryOperator
operator_from n t = if_from n (operator_of t)
