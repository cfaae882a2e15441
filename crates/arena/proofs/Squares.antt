-- Squares of signed numbers, which are cast to their bits and back.
use Rattle.std.proofs.Common.{◌≡◌, ℕ, ℤ, unsigned_abs, ◌+◌, ◌*◌, ◌<◌, ◌≤◌, ◌⊎◌, inl, inr, pos, negsuc, ◌+ℤ◌, ◌-ℤ◌, ◌*ℤ◌, FitsSigned, to_z, of_z, w32, refl, ◌∙◌, arith, ap}
use Rattle.std.specs.Int.{abs_diff}
use Rattle.std.proofs.lemmas.Int.{ints, to_z-of_z, fits_signed_from_abs}
use Rattle.std.proofs.lemmas.Nat.{mul-le}
use Rattle.std.proofs.lemmas.Bool.Decides.{nat_tests}
use Rattle.arena.specs.Collisions.{square}
use Rattle.arena.specs.Shots.{ring}
use Rattle.arena.proofs.Products.{back}
use Rattle.std.proofs.Math.IntN.{pos-*ℤ-pos, negsuc-*ℤ-negsuc}

own_square : (z : ℤ) → z *ℤ z ≡ pos (unsigned_abs z * unsigned_abs z)
own_square (pos n) = pos-*ℤ-pos n n
own_square (negsuc n) = negsuc-*ℤ-negsuc n n

-- the square of such a number
abbrev pub square_bits : ℤ → ℤ
square_bits z = to_z w32 (of_z w32 z) *ℤ to_z w32 (of_z w32 z)

square_is : (z : ℤ) → unsigned_abs z ≤ 9999 → square_bits z ≡ pos (unsigned_abs z * unsigned_abs z)
square_is z h = rw (back z (omega (arith, h))) (own_square z)

pub area_most : (z : ℤ) → unsigned_abs z ≤ 9999 → unsigned_abs z * unsigned_abs z ≤ 99980001
area_most z h = mul-le (unsigned_abs z) (unsigned_abs z) 9999 9999 h h

square_most : (z : ℤ) → unsigned_abs z ≤ 9999 → unsigned_abs (square_bits z) ≤ 99980001
square_most z h = rw (square_is z h) (area_most z h)

pub square_fits : (z : ℤ) → unsigned_abs z ≤ 9999 → FitsSigned w32 (square_bits z)
square_fits z h = let most = square_most z h in fits_signed_from_abs w32 (square_bits z) (omega (arith, most))

pub square_back : (z : ℤ) → unsigned_abs z ≤ 9999 →
    to_z w32 (of_z w32 (square_bits z)) ≡ pos (unsigned_abs z * unsigned_abs z)
square_back z h =
    let most = square_most z h in back (square_bits z) (omega (arith, most)) ∙ square_is z h

-- what lies between two coordinates
abbrev pub between_bits : ℤ → ℤ → ℤ
between_bits x y = to_z w32 (of_z w32 x) -ℤ to_z w32 (of_z w32 y)

between_is : (a b : ℕ) (x y : ℤ) → x ≡ pos a → y ≡ pos b → a ≤ 9999 → b ≤ 9999 → between_bits x y ≡ pos a -ℤ pos b
between_is a b x y p q most_a most_b = rw (p, q, back (pos a) (omega arith), back (pos b) (omega arith)) refl

pub between_size : (a b : ℕ) (x y : ℤ) → x ≡ pos a → y ≡ pos b → a ≤ 9999 → b ≤ 9999 →
    unsigned_abs (between_bits x y) ≡ abs_diff a b
between_size a b x y p q most_a most_b = rw (between_is a b x y p q most_a most_b) (omega (arith, ints))

pub between_small : (a b : ℕ) (x y : ℤ) → x ≡ pos a → y ≡ pos b → a ≤ 9999 → b ≤ 9999 →
    unsigned_abs (between_bits x y) ≤ 9999
between_small a b x y p q most_a most_b = rw (between_size a b x y p q most_a most_b) (omega arith)

pub between_fits : (a b : ℕ) (x y : ℤ) → x ≡ pos a → y ≡ pos b → a ≤ 9999 → b ≤ 9999 → FitsSigned w32 (between_bits x y)
between_fits a b x y p q most_a most_b =
    let small = between_small a b x y p q most_a most_b in
    fits_signed_from_abs w32 (between_bits x y) (omega (arith, small))

pub between_back : (a b : ℕ) (x y : ℤ) → x ≡ pos a → y ≡ pos b → a ≤ 9999 → b ≤ 9999 →
    to_z w32 (of_z w32 (between_bits x y)) ≡ pos a -ℤ pos b
between_back a b x y p q most_a most_b =
    to_z-of_z w32 (between_bits x y) (between_fits a b x y p q most_a most_b) ∙ between_is a b x y p q most_a most_b

pub way_between : {a b : ℕ} {x y : ℤ} (n m : ℕ) → x ≡ pos a → y ≡ pos b → a ≤ 9999 → b ≤ 9999 → a ≡ n → b ≡ m →
    to_z w32 (of_z w32 (between_bits x y)) ≡ pos n -ℤ pos m
way_between {a} {b} {x} {y} n m p q most_a most_b is at =
    between_back a b x y p q most_a most_b ∙ ap (λ k. pos k -ℤ pos b) is ∙ ap (λ k. pos n -ℤ pos k) at

-- the sum of two squares of numbers of metres
abbrev pub both_bits : ℤ → ℤ → ℤ
both_bits a b = to_z w32 (of_z w32 (square_bits a)) +ℤ to_z w32 (of_z w32 (square_bits b))

both_are : (a b : ℤ) → unsigned_abs a ≤ 999 → unsigned_abs b ≤ 999 →
    both_bits a b ≡ pos (unsigned_abs a * unsigned_abs a + unsigned_abs b * unsigned_abs b)
both_are a b p q = rw (square_back a (omega (arith, p)), square_back b (omega (arith, q))) refl

pub both_most : (a b : ℤ) → unsigned_abs a ≤ 999 → unsigned_abs b ≤ 999 →
    unsigned_abs a * unsigned_abs a + unsigned_abs b * unsigned_abs b ≤ 1996002
both_most a b p q =
    omega (
      arith,
      mul-le (unsigned_abs a) (unsigned_abs a) 999 999 p p,
      mul-le (unsigned_abs b) (unsigned_abs b) 999 999 q q,
    )

pub both_fit : (a b : ℤ) → unsigned_abs a ≤ 999 → unsigned_abs b ≤ 999 → FitsSigned w32 (both_bits a b)
both_fit a b p q =
    let most = both_most a b p q in rw (both_are a b p q) (fits_signed_from_abs w32 _ (omega (arith, most)))

pub both_back : (a b : ℤ) → unsigned_abs a ≤ 999 → unsigned_abs b ≤ 999 →
    to_z w32 (of_z w32 (both_bits a b)) ≡ pos (unsigned_abs a * unsigned_abs a + unsigned_abs b * unsigned_abs b)
both_back a b p q = to_z-of_z w32 (both_bits a b) (both_fit a b p q) ∙ both_are a b p q

-- past the widest ring on an axis a burst does nothing
past_rings : (n : ℕ) → 160000 < n → ring n ≡ 0
unfolding ring
past_rings n h = grind (arith, nat_tests)

pub far_harm : (x y to_x to_y : ℕ) → (400 < abs_diff x to_x) ⊎ (400 < abs_diff y to_y) → ring (square x y to_x to_y) ≡ 0
unfolding square
far_harm x y to_x to_y (inl far) =
    past_rings _ (omega (arith, mul-le 401 401 (abs_diff x to_x) (abs_diff x to_x) (omega arith) (omega arith)))
far_harm x y to_x to_y (inr far) =
    past_rings _ (omega (arith, mul-le 401 401 (abs_diff y to_y) (abs_diff y to_y) (omega arith) (omega arith)))
