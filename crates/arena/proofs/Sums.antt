-- Sums of one axis: where they lead.
use Rattle.std.proofs.Common.{◌≡◌, ◌⊎◌, inl, inr, ℕ, ◌+◌, ◌/◌, ◌≤◌, ◌<◌, ℤ, pos, negsuc, unsigned_abs, ◌+ℤ◌, ◌*ℤ◌, ◌≤ℤ◌, false, FitsSigned, to_z, of_z, w32, zero, suc, refl, sym, arith}
use Rattle.std.specs.Int.{abs_diff}
use Rattle.std.proofs.lemmas.Int.{ints, to_z-of_z, fits_signed_from_abs}
use Rattle.std.proofs.lemmas.Bool.{cases_lt}
use Rattle.std.proofs.lemmas.Bool.Decides.{nat_tests}
use Rattle.arena.specs.Rules.{last_place}
use Rattle.arena.specs.Leg.{clamped, along, is_outside}
use Rattle.arena.specs.Sums.{rounding_start, sum_from, last_sum, IsInField, place_of, is_beyond, clamped_place_of}

-- a way goes as the heading does
Goes : ℤ → ℤ → Type 0
Goes (pos n) way = pos 0 ≤ℤ way
Goes (negsuc n) way = way ≤ℤ pos 0

goes : (d : ℕ) (part : ℤ) → Goes part (pos d *ℤ part)
unfolding Goes
goes d (pos n) = omega (arith, ints)
goes zero (negsuc n) = omega (arith, ints)
goes (suc d) (negsuc n) = omega (arith, ints)

-- a sum leads to a coordinate: its whole tenths, or below 0
pub Leads : ℤ → ℤ → Type 0
Leads (pos a) z = z ≡ pos (a / 100000)
Leads (negsuc a) z = z ≤ℤ negsuc 0

leads_by : (o : ℕ) (part way s : ℤ) → Goes part way → s ≡ sum_from o part way → Leads s (along o way)
unfolding Goes Leads sum_from rounding_start along
leads_by o (pos n) (pos w) (pos a) g e = omega (arith, ints)
leads_by o (pos n) (pos w) (negsuc a) g e = omega (arith, ints)
leads_by o (pos n) (negsuc w) (pos a) g e = omega (arith, ints)
leads_by o (pos n) (negsuc w) (negsuc a) g e = omega (arith, ints)
leads_by o (negsuc n) (pos w) (pos a) g e = omega (arith, ints)
leads_by o (negsuc n) (pos w) (negsuc a) g e = omega (arith, ints)
leads_by o (negsuc n) (negsuc w) (pos a) g e = omega (arith, ints)
leads_by o (negsuc n) (negsuc w) (negsuc a) g e = omega (arith, ints)

pub leads : (o d : ℕ) (part : ℤ) → Leads (sum_from o part (pos d *ℤ part)) (along o (pos d *ℤ part))
leads o d part = leads_by o part (pos d *ℤ part) (sum_from o part (pos d *ℤ part)) (goes d part) refl

-- a sum leads beyond a wall as its coordinate does, and the nearest place is the same
pub beyond_is : (s z : ℤ) → Leads s z → is_beyond s ≡ is_outside z
unfolding Leads is_beyond is_outside
beyond_is (pos a) z l = by_wall (cases_lt last_sum a)
  where
    by_wall : ((last_sum < a) ⊎ (a ≤ last_sum)) → is_beyond (pos a) ≡ is_outside z
    by_wall (inl h) = rw l (grind (arith, nat_tests))
    by_wall (inr h) = rw l (grind (arith, nat_tests))
beyond_is (negsuc a) (pos n) l = absurd (omega (arith, ints, l))
beyond_is (negsuc a) (negsuc n) l = refl

pub near_is : (s z : ℤ) → Leads s z → clamped_place_of s ≡ clamped last_place z
unfolding Leads clamped_place_of clamped
near_is (pos a) z l = rw l (omega (arith))
near_is (negsuc a) (pos n) l = absurd (omega (arith, ints, l))
near_is (negsuc a) (negsuc n) l = refl

pub place_is : (s z : ℤ) → Leads s z → IsInField s → place_of s ≡ unsigned_abs z
unfolding Leads
place_is (pos a) z l field = rw l refl
place_is (negsuc a) z l field = absurd (omega (arith, ints, field.0))

-- what is in the field isn't beyond a wall
pub field_is_free : (s : ℤ) → IsInField s → is_beyond s ≡ false
unfolding is_beyond
field_is_free (pos a) field = grind (arith, nat_tests, ints)
field_is_free (negsuc a) field = absurd (omega (arith, ints, field.0))

pub free_is_field : (s : ℤ) → is_beyond s ≡ false → IsInField s
unfolding is_beyond
free_is_field (pos a) h = grind (arith, nat_tests, ints)
free_is_field (negsuc a) h = cc

-- the sum of a place
pub at_place : (x : ℕ) (part : ℤ) → place_of (sum_from x part (pos 0)) ≡ x
unfolding sum_from rounding_start
at_place x (pos n) = omega (arith, ints)
at_place x (negsuc n) = omega (arith, ints)

-- after an update a sum leads at most ten metres further
pub near : (s step : ℤ) → IsInField s → unsigned_abs step ≤ 10000000 →
    abs_diff (place_of s) (clamped_place_of (s +ℤ step)) ≤ 100
unfolding clamped_place_of clamped
near s step field most = by_sign (s +ℤ step) refl
  where
    by_sign : (to : ℤ) → to ≡ s +ℤ step → abs_diff (place_of s) (clamped_place_of to) ≤ 100
    by_sign (pos n) e = omega (arith, ints, field.0, field.1, most, e)
    by_sign (negsuc n) e = omega (arith, ints, field.0, field.1, most, e)

near_free : (s : ℤ) → IsInField s → clamped_place_of s ≡ place_of s
unfolding clamped_place_of clamped
near_free (pos n) field = omega (arith, ints, field.1)
near_free (negsuc n) field = absurd (omega (arith, ints, field.0))

-- a sum after an update, in which each signed number was cast to its bits and back
abbrev pub grown_bits : ℤ → ℤ → ℤ
grown_bits s step = to_z w32 (of_z w32 (to_z w32 (of_z w32 s) +ℤ to_z w32 (of_z w32 step)))

pub bits_are : (s step : ℤ) → FitsSigned w32 s → FitsSigned w32 step → FitsSigned w32 (s +ℤ step) →
    grown_bits s step ≡ s +ℤ step
bits_are s step f g h = simp to_z-of_z

-- one that stays in the field leads no further either
pub near_inside : (s step : ℤ) → IsInField s → unsigned_abs step ≤ 10000000 → is_beyond (s +ℤ step) ≡ false →
    grown_bits s step ≡ s +ℤ step → abs_diff (place_of s) (place_of (grown_bits s step)) ≤ 100
near_inside s step field most free bits =
    rw (bits, sym (near_free (s +ℤ step) (free_is_field (s +ℤ step) free))) (near s step field most)

-- a sum of the field that was cast to its bits and back
pub field_bits : (s : ℤ) → IsInField s → to_z w32 (of_z w32 s) ≡ pos (unsigned_abs s)
field_bits (pos n) field =
    let most = field.1 in to_z-of_z w32 (pos n) (fits_signed_from_abs w32 (pos n) (omega (arith, ints, most)))
field_bits (negsuc n) field = absurd (omega (arith, ints, field.0))

pub field_back : (s : ℤ) → IsInField s → to_z w32 (of_z w32 s) ≡ s
field_back (pos n) field = field_bits (pos n) field
field_back (negsuc n) field = absurd (omega (arith, ints, field.0))

pub field_most : (s : ℤ) → IsInField s → unsigned_abs s ≤ last_sum
field_most (pos n) field = let most = field.1 in omega (arith, ints, most)
field_most (negsuc n) field = absurd (omega (arith, ints, field.0))

-- a coordinate of the field that was cast so
pub coordinate_back : (z : ℤ) → pos 0 ≤ℤ z → z ≤ℤ pos last_place → to_z w32 (of_z w32 z) ≡ z
coordinate_back z least most = field_back z (least, omega (arith, ints, most))

-- one of the field after an update
pub grown_back : (s step : ℤ) → IsInField s → unsigned_abs step ≤ 10000000 → grown_bits s step ≡ s +ℤ step
grown_back s step field small =
    let most = field_most s field in
    let size : unsigned_abs (s +ℤ step) ≤ unsigned_abs s + unsigned_abs step = omega (arith, ints) in
    bits_are s step (fits_signed_from_abs w32 s (omega (arith, most)))
    (fits_signed_from_abs w32 step (omega (arith, small)))
    (fits_signed_from_abs w32 (s +ℤ step) (omega (arith, most, small, size)))
