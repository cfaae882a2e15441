-- The code's table of one round and a quarter holds the sine of each of its degrees.
use Rattle.std.proofs.Common.{◌≡◌, ℕ, zero, suc, ◌+◌, ◌-◌, ◌^◌, ◌<◌, ◌≤◌, ◌%◌, ℤ, pos, List, [], ◌∷◌, get_or, map, take, drop, unsigned_abs, FitsSigned, to_z, of_z, nat_le, Bool, true, refl, ap, ◌∙◌, arith}
use Rattle.std.specs.List.{range_with_len}
use Rattle.std.specs.Int.{w32}
use Rattle.std.proofs.lemmas.Int.{to_z-of_z, fits_signed_from_abs}
use Rattle.std.proofs.lemmas.List.{drop-map}
use Rattle.std.proofs.lemmas.List.FromFn.{get_or-map-range_with_len, take-map-range_with_len}
use Rattle.std.proofs.lemmas.Bool.Decides.{nat_tests}
pub use Rattle.arith.specs.declared.tables.TheConstants.{ROUND}
use Rattle.arith.specs.Table.{sines}
use Rattle.std.specs.Int.{abs_diff}
use Rattle.arith.specs.Circle.{sine_at, cosine_at}
use Rattle.arith.specs.NearCircle.{square_of, IsNearlyOnCircle}
use Rattle.arith.proofs.Below.{passes_below, passes_at}

-- the sine of the degree of index i, once round
abbrev pub round_sine : ℕ → ℤ
round_sine i = sine_at (i % 360)

-- the code's table, entry by entry
table_is : ROUND ≡ map round_sine (range_with_len 0 450)
unfolding sine_at sines
table_is = refl

pub entry_is : (i : ℕ) → i < 450 → get_or ROUND i (pos 0) ≡ sine_at (i % 360)
entry_is i h =
    ap (λ xs. get_or xs i (pos 0)) table_is ∙ get_or-map-range_with_len round_sine 0 450 i i (pos 0) h (omega arith)

-- no sine is beyond the scale
is_small : ℕ → Bool
is_small d = nat_le (unsigned_abs (sine_at d)) 100000

all_small : passes_below is_small 360 ≡ true
unfolding sine_at sines is_small
all_small = refl

pub sine_bound : (d : ℕ) → d < 360 → unsigned_abs (sine_at d) ≤ 100000
unfolding is_small
sine_bound d h = let e = passes_at is_small 360 all_small d h in grind (arith, nat_tests)

pub sine_fits : (i : ℕ) → FitsSigned w32 (round_sine i)
sine_fits i = let bound = sine_bound (i % 360) (omega arith) in fits_signed_from_abs w32 (round_sine i) (omega arith)

-- numbers that fit are the same after a way through their bits
pub bits_and_back : (f : ℕ → ℤ) → ((i : ℕ) → FitsSigned w32 (f i)) → (indices : List ℕ) →
    map (to_z w32) (map (of_z w32) (map f indices)) ≡ map f indices
bits_and_back f fits [] = refl
bits_and_back f fits (i ∷ indices) = rw (to_z-of_z w32 (f i) (fits i), bits_and_back f fits indices)

drop-range : (i a b m n : ℕ) → b ≡ a + i → m ≡ i + n → drop i (range_with_len a m) ≡ range_with_len b n
drop-range zero a b m n p q = let from : a ≡ b = omega arith in let size : m ≡ n = omega arith in cc
drop-range (suc i) a b zero n p q = absurd (omega arith)
drop-range (suc i) a b (suc m) n p q = drop-range i (a + 1) b m n (omega arith) (omega arith)

-- eight entries in order
pub eight_are : (i : ℕ) → i + 8 ≤ 450 →
    map (to_z w32) (map (of_z w32) (take 8 (take (450 - i) (drop i ROUND)))) ≡ map round_sine (range_with_len i 8)
eight_are i h =
    let rest = drop-range i 0 i 450 (450 - i) (omega arith) (omega arith) in
    let table = ap (drop i) table_is ∙ drop-map round_sine i (range_with_len 0 450) ∙ ap (map round_sine) rest in
    let all = ap (take (450 - i)) table ∙ take-map-range_with_len round_sine i (450 - i) (450 - i) (omega arith) in
    let eight = ap (take 8) all ∙ take-map-range_with_len round_sine i (450 - i) 8 (omega arith) in
    ap (λ xs. map (to_z w32) (map (of_z w32) xs)) eight ∙ bits_and_back round_sine sine_fits (range_with_len i 8)

-- the circle, degree by degree
is_near : ℕ → Bool
is_near d = nat_le (abs_diff (square_of (sine_at d) + square_of (cosine_at d)) (10 ^ 10)) 150000

all_near : passes_below is_near 91 ≡ true
unfolding sine_at cosine_at sines is_near
all_near = refl

pub nearly_on_circle : (d : ℕ) → d ≤ 90 → IsNearlyOnCircle d
unfolding is_near
nearly_on_circle d h = let e = passes_at is_near 91 all_near d (omega arith) in grind (arith, nat_tests)
