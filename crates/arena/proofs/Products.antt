-- Products of two numbers that are cast to their bits and back.
use Rattle.std.proofs.Common.{◌≡◌, ℕ, ◌*◌, ◌≤◌, ℤ, unsigned_abs, ◌*ℤ◌, FitsSigned, to_z, of_z, w32, pos, ap, refl, ◌∙◌, arith}
use Rattle.std.proofs.lemmas.Int.{to_z-of_z, fits_signed_from_abs, unsigned_abs-mul}
use Rattle.std.proofs.lemmas.Nat.{mul-le}

abbrev pub product_bits : ℤ → ℤ → ℤ
product_bits a b = to_z w32 (of_z w32 a) *ℤ to_z w32 (of_z w32 b)

-- a number that was cast to its bits and back
pub back : (z : ℤ) → unsigned_abs z ≤ 999900000 → to_z w32 (of_z w32 z) ≡ z
back z h = to_z-of_z w32 z (fits_signed_from_abs w32 z (omega (arith, h)))

product_is : (a b : ℤ) → unsigned_abs a ≤ 9999 → unsigned_abs b ≤ 100000 → product_bits a b ≡ a *ℤ b
product_is a b p q = rw (back a (omega (arith, p)), back b (omega (arith, q))) refl

product_most : (a b : ℤ) → unsigned_abs a ≤ 9999 → unsigned_abs b ≤ 100000 → unsigned_abs (product_bits a b) ≤ 999900000
product_most a b p q =
    rw (product_is a b p q, unsigned_abs-mul a b) (mul-le (unsigned_abs a) (unsigned_abs b) 9999 100000 p q)

pub product_fits : (a b : ℤ) → unsigned_abs a ≤ 9999 → unsigned_abs b ≤ 100000 → FitsSigned w32 (product_bits a b)
product_fits a b p q =
    let most = product_most a b p q in fits_signed_from_abs w32 (product_bits a b) (omega (arith, most))

pub product_back : (a b : ℤ) → unsigned_abs a ≤ 9999 → unsigned_abs b ≤ 100000 →
    to_z w32 (of_z w32 (product_bits a b)) ≡ a *ℤ b
product_back a b p q = back (product_bits a b) (product_most a b p q) ∙ product_is a b p q

-- by a count that was cast
pub scaled_fits : {n : ℕ} {a : ℤ} (b : ℤ) → a ≡ pos n → n ≤ 9999 → unsigned_abs b ≤ 100000 →
    FitsSigned w32 (product_bits a b)
scaled_fits {n} {a} b is few part = product_fits a b (rw is few) part

pub scaled_back : {n : ℕ} {a : ℤ} (b : ℤ) → a ≡ pos n → n ≤ 9999 → unsigned_abs b ≤ 100000 →
    to_z w32 (of_z w32 (product_bits a b)) ≡ pos n *ℤ b
scaled_back {n} {a} b is few part = product_back a b (rw is few) part ∙ ap (λ (z : ℤ). z *ℤ b) is

pub size_most : (a b : ℤ) (m n : ℕ) → unsigned_abs a ≤ m → unsigned_abs b ≤ n → unsigned_abs (a *ℤ b) ≤ m * n
size_most a b m n p q = rw (unsigned_abs-mul a b) (mul-le (unsigned_abs a) (unsigned_abs b) m n p q)
