-- The operator that a token spells.
use Rattle.tokens.specs.declared.located_tokens.Token.TheVariants as token
use Rattle.std.specs.Prelude.{Option, None}
use Rattle.tokens.specs.declared.located_tokens.Punctuator.{Punctuator}
use Rattle.tokens.specs.declared.located_tokens.Token.{Token}
use Rattle.grammar.specs.declared.operators.BinaryOperator.{BinaryOperator}
use Rattle.grammar.specs.declared.operators.StoreOp.{StoreOp}
use Rattle.grammar.specs.Operators.{binary_of, store_of}

-- the operator that a token spells, with its level
abbrev pub operator_of : Token → Option BinaryOperator
operator_of (token.Punctuator m) = binary_of m
operator_of _ = None

-- the operator of an assignment that a token spells
abbrev pub store_operator : Token → Option StoreOp
store_operator (token.Punctuator m) = store_of m
store_operator _ = None
