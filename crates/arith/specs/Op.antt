-- What an operator makes of two numbers: its result among the whole numbers, brought back into 32 bits.
use Rattle.std.specs.Prelude.{ℕ, zero, suc, ◌^◌, ◌%◌, Bool, true, false, not, ◌&&◌, ◌||◌, if◌then◌else◌, ℤ, pos, negsuc, ◌+ℤ◌, ◌-ℤ◌, ◌*ℤ◌, int_lt, int_le, int_div, int_rem}
use Rattle.std.specs.Int.{w32, int_wrap, int_div_euclid, int_bit_and, int_bit_or, int_bit_xor, cast_unsigned}
use Rattle.std.specs.Ordering.{int_eq}
use Rattle.arith.specs.declared.operators.Op.{Op}
use Rattle.arith.specs.declared.operators.Op.TheVariants.{Or, And, BitOr, BitXor, BitAnd, Equal, NotEqual, Less, Greater, LessOrEqual, GreaterOrEqual, ShiftLeft, ShiftRight, Add, Subtract, Multiply, Divide, Remainder}

abbrev pub is_logic : Op → Bool
is_logic Or = true
is_logic And = true
is_logic _ = false

-- a number holds if it is not 0
abbrev pub holds : ℤ → Bool
holds (pos zero) = false
holds (pos (suc n)) = true
holds (negsuc n) = true

-- a truth value is 1 or 0
abbrev pub truth : Bool → ℤ
truth true = pos 1
truth false = pos 0

-- a shift goes by the low five bits of its count
abbrev pub shift_count : ℤ → ℕ
shift_count b = cast_unsigned w32 b % 32

-- the quotient, rounded towards 0, and the remainder that goes with it; by 0 both are 0
abbrev pub quotient : ℤ → ℤ → ℤ
quotient a b = if holds b then int_div a b else pos 0

abbrev pub remainder : ℤ → ℤ → ℤ
remainder a b = if holds b then int_rem a b else pos 0

abbrev pub whole_value : Op → ℤ → ℤ → ℤ
whole_value Or a b = truth (holds a || holds b)
whole_value And a b = truth (holds a && holds b)
whole_value BitOr a b = int_bit_or w32 a b
whole_value BitXor a b = int_bit_xor w32 a b
whole_value BitAnd a b = int_bit_and w32 a b
whole_value Equal a b = truth (int_eq a b)
whole_value NotEqual a b = truth (not (int_eq a b))
whole_value Less a b = truth (int_lt a b)
whole_value Greater a b = truth (int_lt b a)
whole_value LessOrEqual a b = truth (int_le a b)
whole_value GreaterOrEqual a b = truth (int_le b a)
whole_value ShiftLeft a b = a *ℤ pos (2 ^ shift_count b)
whole_value ShiftRight a b = int_div_euclid a (pos (2 ^ shift_count b))
whole_value Add a b = a +ℤ b
whole_value Subtract a b = a -ℤ b
whole_value Multiply a b = a *ℤ b
whole_value Divide a b = quotient a b
whole_value Remainder a b = remainder a b

-- the number of 32 bits that differs from the whole result by a multiple of 2 ^ 32
unfoldable pub value_of : Op → ℤ → ℤ → ℤ
value_of op a b = int_wrap w32 (whole_value op a b)
