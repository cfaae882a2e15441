-- What the code's operators give is the whole-number result, brought back into 32 bits.
use Rattle.std.proofs.Common.{◌≡◌, ℕ, zero, suc, ◌<◌, ◌≤◌, ◌/◌, ◌^◌, ℤ, pos, negsuc, neg_ℤ, ◌*ℤ◌, FitsSigned, unsigned_abs, refl, ap, ◌∙◌, arith}
use Rattle.std.specs.Prelude.{int_div}
use Rattle.std.specs.Int.{w32, int_wrap, int_shl, cast_unsigned, cast_signed}
use Rattle.std.proofs.lemmas.Int.{ints, to_z-of_z, int_wrap_fits, wrapping_add_is, wrapping_sub_is, wrapping_mul_is, wrapping_mul-bits, int_wrap-mul_right}
use Rattle.std.proofs.lemmas.Nat.{pow_below}
use Rattle.arith.specs.declared.operators.Op.{Op}
use Rattle.arith.specs.Op.{shift_count, whole_value, value_of}

pub value_is : (op : Op) (a b : ℤ) → value_of op a b ≡ int_wrap w32 (whole_value op a b)
unfolding value_of
value_is op a b = refl

-- the signed reading of a number's bits
reading_is : (z : ℤ) → unsigned_abs z < 2 ^ 32 → cast_signed w32 (cast_unsigned w32 z) ≡ int_wrap w32 z
unfolding int_wrap
reading_is (pos n) h = ap (cast_signed w32) (omega arith)
reading_is (negsuc n) h = ap (cast_signed w32) (omega arith)

-- a shift to the left is the product with a power of two
shift_left_is : (a : ℤ) (k : ℕ) → FitsSigned w32 a → k < 32 → int_shl w32 a k ≡ int_wrap w32 (a *ℤ pos (2 ^ k))
shift_left_is a k fits h =
    let power : 2 ^ k < 2 ^ 32 = pow_below k 32 h in
    let bits : cast_unsigned w32 a < 2 ^ 32 = omega (arith, ints) in
    wrapping_mul-bits w32 (cast_unsigned w32 a) (2 ^ k) bits power
    ∙ ap (λ z. int_wrap w32 (z *ℤ cast_signed w32 (2 ^ k))) (to_z-of_z w32 a fits)
    ∙ ap (λ z. int_wrap w32 (a *ℤ z)) (reading_is (pos (2 ^ k)) power)
    ∙ int_wrap-mul_right w32 a (pos (2 ^ k))

pub shift_left_gives : (a b : ℤ) → FitsSigned w32 a →
    int_shl w32 a (shift_count b) ≡ int_wrap w32 (a *ℤ pos (2 ^ shift_count b))
shift_left_gives a b fits = shift_left_is a (shift_count b) fits (omega arith)

-- a quotient is no larger than what is divided
size_of_negative : (n : ℕ) → unsigned_abs (neg_ℤ (pos n)) ≡ n
size_of_negative zero = refl
size_of_negative (suc n) = refl

quotient_le : (n d : ℕ) → n / d ≤ n
quotient_le n d = omega arith

quotient_size : (a b : ℤ) → unsigned_abs (int_div a b) ≤ unsigned_abs a
quotient_size (pos a) (pos b) = quotient_le a b
quotient_size (pos a) (negsuc b) = rw (size_of_negative (a / suc b)) (quotient_le a (suc b))
quotient_size (negsuc a) (pos b) = rw (size_of_negative (suc a / b)) (quotient_le (suc a) b)
quotient_size (negsuc a) (negsuc b) = quotient_le (suc a) (suc b)

pub quotient_gives : (a b : ℤ) → FitsSigned w32 a →
    cast_signed w32 (cast_unsigned w32 (int_div a b)) ≡ int_wrap w32 (int_div a b)
quotient_gives a b fits = let size = quotient_size a b in reading_is (int_div a b) (omega (arith, ints))

pub ruleset op_steps = (
  to_z-of_z,
  value_is,
  int_wrap_fits,
  shift_left_gives,
  quotient_gives,
  wrapping_add_is,
  wrapping_sub_is,
  wrapping_mul_is,
)
