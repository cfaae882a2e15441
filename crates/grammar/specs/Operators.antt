-- The punctuators that spell the binary operators, by the grammar's ten levels, and those of assignments.
use Rattle.std.specs.Prelude.{ℕ, Option, Some, None, ◌==◌, if◌then◌else◌}
use Rattle.tokens.specs.declared.located_tokens.Punctuator.{Punctuator}
use Rattle.tokens.specs.declared.located_tokens.Punctuator.TheVariants as punctuator
use Rattle.tokens.specs.declared.located_tokens.Token.{Token}
use Rattle.tokens.specs.declared.located_tokens.Token.TheVariants as token
use Rattle.grammar.specs.declared.operators.BinaryOperator.{BinaryOperator}
use Rattle.arith.specs.declared.operators.Op.{Op}
use Rattle.arith.specs.declared.operators.Op.TheVariants as op
use Rattle.grammar.specs.declared.operators.StoreOp.{StoreOp}
use Rattle.grammar.specs.declared.operators.StoreOp.TheVariants as store_op

abbrev pub at_level : ℕ → Op → Option BinaryOperator
at_level n o = Some (record { level = n; op = o })

abbrev pub binary_of : Punctuator → Option BinaryOperator
binary_of punctuator.OrOr = at_level 1 op.Or
binary_of punctuator.AndAnd = at_level 2 op.And
binary_of punctuator.Or = at_level 3 op.BitOr
binary_of punctuator.Xor = at_level 4 op.BitXor
binary_of punctuator.And = at_level 5 op.BitAnd
binary_of punctuator.EqualsEquals = at_level 6 op.Equal
binary_of punctuator.NotEquals = at_level 6 op.NotEqual
binary_of punctuator.Less = at_level 7 op.Less
binary_of punctuator.Greater = at_level 7 op.Greater
binary_of punctuator.LessEquals = at_level 7 op.LessOrEqual
binary_of punctuator.GreaterEquals = at_level 7 op.GreaterOrEqual
binary_of punctuator.ShiftLeft = at_level 8 op.ShiftLeft
binary_of punctuator.ShiftRight = at_level 8 op.ShiftRight
binary_of punctuator.Plus = at_level 9 op.Add
binary_of punctuator.Minus = at_level 9 op.Subtract
binary_of punctuator.Star = at_level 10 op.Multiply
binary_of punctuator.Slash = at_level 10 op.Divide
binary_of punctuator.Percent = at_level 10 op.Remainder
binary_of _ = None

abbrev pub binary_punctuator : Op → Punctuator
binary_punctuator op.Or = punctuator.OrOr
binary_punctuator op.And = punctuator.AndAnd
binary_punctuator op.BitOr = punctuator.Or
binary_punctuator op.BitXor = punctuator.Xor
binary_punctuator op.BitAnd = punctuator.And
binary_punctuator op.Equal = punctuator.EqualsEquals
binary_punctuator op.NotEqual = punctuator.NotEquals
binary_punctuator op.Less = punctuator.Less
binary_punctuator op.Greater = punctuator.Greater
binary_punctuator op.LessOrEqual = punctuator.LessEquals
binary_punctuator op.GreaterOrEqual = punctuator.GreaterEquals
binary_punctuator op.ShiftLeft = punctuator.ShiftLeft
binary_punctuator op.ShiftRight = punctuator.ShiftRight
binary_punctuator op.Add = punctuator.Plus
binary_punctuator op.Subtract = punctuator.Minus
binary_punctuator op.Multiply = punctuator.Star
binary_punctuator op.Divide = punctuator.Slash
binary_punctuator op.Remainder = punctuator.Percent

abbrev pub if_at : ℕ → Option BinaryOperator → Option Op
if_at n None = None
if_at n (Some b) = if b.level == n then Some b.op else None

-- the operator of level n that a token spells
abbrev pub operator_at : ℕ → Token → Option Op
operator_at n (token.Punctuator m) = if_at n (binary_of m)
operator_at n _ = None

-- the assignment that a punctuator spells
abbrev pub store_of : Punctuator → Option StoreOp
store_of punctuator.Equals = Some store_op.Set
store_of punctuator.PlusEquals = Some store_op.Add
store_of punctuator.MinusEquals = Some store_op.Subtract
store_of punctuator.StarEquals = Some store_op.Multiply
store_of punctuator.SlashEquals = Some store_op.Divide
store_of punctuator.PercentEquals = Some store_op.Remainder
store_of punctuator.ShiftLeftEquals = Some store_op.ShiftLeft
store_of punctuator.ShiftRightEquals = Some store_op.ShiftRight
store_of punctuator.AndEquals = Some store_op.BitAnd
store_of punctuator.XorEquals = Some store_op.BitXor
store_of punctuator.OrEquals = Some store_op.BitOr
store_of _ = None

abbrev pub store_punctuator : StoreOp → Punctuator
store_punctuator store_op.Set = punctuator.Equals
store_punctuator store_op.Add = punctuator.PlusEquals
store_punctuator store_op.Subtract = punctuator.MinusEquals
store_punctuator store_op.Multiply = punctuator.StarEquals
store_punctuator store_op.Divide = punctuator.SlashEquals
store_punctuator store_op.Remainder = punctuator.PercentEquals
store_punctuator store_op.ShiftLeft = punctuator.ShiftLeftEquals
store_punctuator store_op.ShiftRight = punctuator.ShiftRightEquals
store_punctuator store_op.BitAnd = punctuator.AndEquals
store_punctuator store_op.BitXor = punctuator.XorEquals
store_punctuator store_op.BitOr = punctuator.OrEquals

-- the binary operator by which an assignment works out the new value: none for =
abbrev pub op_of : StoreOp → Option Op
op_of store_op.Set = None
op_of store_op.Add = Some op.Add
op_of store_op.Subtract = Some op.Subtract
op_of store_op.Multiply = Some op.Multiply
op_of store_op.Divide = Some op.Divide
op_of store_op.Remainder = Some op.Remainder
op_of store_op.ShiftLeft = Some op.ShiftLeft
op_of store_op.ShiftRight = Some op.ShiftRight
op_of store_op.BitAnd = Some op.BitAnd
op_of store_op.BitXor = Some op.BitXor
op_of store_op.BitOr = Some op.BitOr
