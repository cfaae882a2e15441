-- Values that the definitions give, worked out from them by the prover. They pin down the roundings, the signs and the
-- ties.
use Rattle.std.specs.Prelude.{◌≡◌, ℤ, pos, neg_ℤ, ℕ}
use Rattle.arith.specs.declared.operators.Op.{Op}
use Rattle.arith.specs.declared.operators.Op.TheVariants.{Or, And, BitOr, BitXor, BitAnd, Equal, NotEqual, Less, Greater}
use Rattle.arith.specs.declared.operators.Op.TheVariants.{LessOrEqual, GreaterOrEqual, ShiftLeft, ShiftRight, Add, Subtract, Multiply, Divide, Remainder}
use Rattle.arith.specs.Op.{value_of}
use Rattle.arith.specs.Circle.{sine_of}
use Rattle.arith.specs.Tangent.{tangent_of}
use Rattle.arith.specs.Arctangent.{bound_of, arctangent_of}
use Rattle.arith.specs.Root.{root_of}
use Rattle.arith.specs.Bearing.{projection_of, bearing_of}

-- the negative number of this size, and the least number of 32 bits
abbrev pub minus : ℕ → ℤ
minus n = neg_ℤ (pos n)

abbrev pub least : ℤ
least = minus 2147483648

-- the values of an operator at 2 and 21, at 21 and 2, at 2 and 2, at 0 and 2
abbrev pub Gives : Op → (a b c d : ℤ) → Type 0
Gives o a b c d =
    (value_of o (pos 2) (pos 21) ≡ a) × (value_of o (pos 21) (pos 2) ≡ b) × (value_of o (pos 2) (pos 2) ≡ c)
    × (value_of o (pos 0) (pos 2) ≡ d)

-- No two operators give the same four values.
pub record KnownOperators : Type 0 where
  pub or : Gives Or (pos 1) (pos 1) (pos 1) (pos 1)
  pub and : Gives And (pos 1) (pos 1) (pos 1) (pos 0)
  pub bit_or : Gives BitOr (pos 23) (pos 23) (pos 2) (pos 2)
  pub bit_xor : Gives BitXor (pos 23) (pos 23) (pos 0) (pos 2)
  pub bit_and : Gives BitAnd (pos 0) (pos 0) (pos 2) (pos 0)
  pub equal : Gives Equal (pos 0) (pos 0) (pos 1) (pos 0)
  pub not_equal : Gives NotEqual (pos 1) (pos 1) (pos 0) (pos 1)
  pub less : Gives Less (pos 1) (pos 0) (pos 0) (pos 1)
  pub greater : Gives Greater (pos 0) (pos 1) (pos 0) (pos 0)
  pub less_or_equal : Gives LessOrEqual (pos 1) (pos 0) (pos 1) (pos 1)
  pub greater_or_equal : Gives GreaterOrEqual (pos 0) (pos 1) (pos 1) (pos 0)
  pub shift_left : Gives ShiftLeft (pos 4194304) (pos 84) (pos 8) (pos 0)
  pub shift_right : Gives ShiftRight (pos 0) (pos 5) (pos 0) (pos 0)
  pub add : Gives Add (pos 23) (pos 23) (pos 4) (pos 2)
  pub subtract : Gives Subtract (minus 19) (pos 19) (pos 0) (minus 2)
  pub multiply : Gives Multiply (pos 42) (pos 42) (pos 4) (pos 0)
  pub divide : Gives Divide (pos 0) (pos 10) (pos 1) (pos 0)
  pub remainder : Gives Remainder (pos 2) (pos 1) (pos 0) (pos 0)

pub record OperatorValues : Type 0 where
  pub quotient_by_zero : value_of Divide (pos 7) (pos 0) ≡ pos 0
  pub remainder_by_zero : value_of Remainder (pos 7) (pos 0) ≡ pos 0
  pub least_quotient : value_of Divide least (minus 1) ≡ least
  pub least_remainder : value_of Remainder least (minus 1) ≡ pos 0
  pub shift_by_low_bits : value_of ShiftLeft (pos 1) (pos 33) ≡ pos 2
  pub sign_is_kept : value_of ShiftRight (minus 1) (pos 1) ≡ minus 1

pub record DegreeValues : Type 0 where
  pub sine_below_zero : sine_of (minus 90) ≡ minus 100000
  pub sine_beyond_round : sine_of (pos 390) ≡ pos 50000
  pub upright_tangent : tangent_of (pos 90) ≡ pos 2147483647
  pub falling_tangent : tangent_of (pos 135) ≡ minus 100000
  pub bound_30 : bound_of 30 ≡ 56583
  pub bound_31 : bound_of 31 ≡ 58910
  pub bound_45 : bound_of 45 ≡ 98284
  pub bound_46 : bound_of 46 ≡ 101776
  pub arctangent_30 : arctangent_of (pos 57735) ≡ pos 30
  pub arctangent_45 : arctangent_of (pos 100000) ≡ pos 45
  pub arctangent_below_zero : arctangent_of (minus 57735) ≡ minus 30
  pub arctangent_greatest : arctangent_of (pos 2147483647) ≡ pos 90
  pub arctangent_least : arctangent_of least ≡ minus 90

pub record RootValues : Type 0 where
  pub root_below_zero : root_of (minus 16) ≡ pos 4
  pub root_least : root_of least ≡ pos 46340

pub record BearingValues : Type 0 where
  pub reach_354 : projection_of (pos 100) (minus 9) 354 ≡ pos 10039277
  pub reach_355 : projection_of (pos 100) (minus 9) 355 ≡ pos 10040344
  pub reach_356 : projection_of (pos 100) (minus 9) 356 ≡ pos 10038384
  pub reach_15 : projection_of (pos 100) (pos 29) 15 ≡ pos 10409878
  pub reach_16 : projection_of (pos 100) (pos 29) 16 ≡ pos 10411956
  pub reach_17 : projection_of (pos 100) (pos 29) 17 ≡ pos 10410873
  pub bearing_355 : bearing_of (pos 100) (minus 9) ≡ 355
  pub bearing_16 : bearing_of (pos 100) (pos 29) ≡ 16
  pub bearing_of_no_difference : bearing_of (pos 0) (pos 0) ≡ 0
  pub bearing_corner : bearing_of (pos 999) (pos 999) ≡ 45
  pub bearing_west : bearing_of (minus 1) (pos 0) ≡ 180
  pub bearing_south : bearing_of (pos 0) (minus 1) ≡ 270
  pub tie_of_0_and_1 : bearing_of (pos 349) (pos 3) ≡ 0
  pub tie_of_0_and_359 : bearing_of (pos 349) (minus 3) ≡ 0
  pub tie_of_89_and_90 : bearing_of (pos 3) (pos 349) ≡ 89
