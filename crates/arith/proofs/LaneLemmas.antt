-- Eight signed numbers side by side are held as their bits: what becomes of them lane by lane.
use Rattle.std.proofs.Common.{◌≡◌, ℕ, zero, suc, ◌+◌, ◌*◌, ◌-◌, ◌^◌, ◌<◌, ◌≤◌, ◌%◌, ℤ, pos, ◌+ℤ◌, ◌*ℤ◌, FitsSigned, unsigned_abs, List, [], ◌∷◌, length, get_or, map, replicate, to_z, of_z, cond, eqb, int_lt, refl, sym, ap, ◌∙◌, Bool, true, false, not, nat_lt, take, fold, Some, None, ◌⊎◌, inl, inr, arith}
use Rattle.std.specs.Int.{w32, int_max}
use Rattle.std.specs.Int.Count.{count_trailing_zeros}
use Rattle.std.specs.List.{All, Contains, position, prefix_len, range_with_len}
use Rattle.std.specs.Ordering.{int_eq}
use Rattle.std.specs.Simd.Lanes.{zip2, sel_l, mask_l, top}
use Rattle.std.proofs.lemmas.Bool.Decides.{nat_tests, same_from_decides, Decides-eqb, Decides-int_eq}
use Rattle.std.proofs.lemmas.List.{take_all, length-map}
use Rattle.std.proofs.lemmas.List.Elements.{All-from_get_or}
use Rattle.std.proofs.lemmas.List.FromFn.{get_or-map-range_with_len}
use Rattle.std.proofs.lemmas.Simd.{bitmask_splat, trailing_mask_l, leading_from_mask_l, tops_compared}
use Rattle.std.proofs.lemmas.Int.{fold-int_max_bounds, fold-int_max_reached, ints, to_z-of_z, int_wrap_fits, wrapping_add-bits, wrapping_mul-bits}
use Rattle.arith.specs.Circle.{sine_at, cosine_at}
use Rattle.arith.specs.Bearing.{projection_of}
use Rattle.arith.specs.Furthest.{IsGreatest}
use Rattle.arith.proofs.CircleLemmas.{round_sine, sine_fits, sine_bound}
use Rattle.arith.proofs.BearingLemmas.{part_fits, reach_fits}

-- the sums and products of lanes keep the low 32 bits
abbrev plus : ℕ → ℕ → ℕ
plus m n = (m + n) % 2 ^ 32

abbrev times : ℕ → ℕ → ℕ
times m n = (m * n) % 2 ^ 32

-- the bits of a number that fits are below the end
bits_below : (z : ℤ) → FitsSigned w32 z → of_z w32 z < 2 ^ 32
bits_below z fits = omega (arith, ints)

part_of_bits : (a b : ℤ) → FitsSigned w32 a → FitsSigned w32 b → FitsSigned w32 (a *ℤ b) →
    to_z w32 (times (of_z w32 a) (of_z w32 b)) ≡ a *ℤ b
part_of_bits a b p q r =
    let whole = wrapping_mul-bits w32 (of_z w32 a) (of_z w32 b) (bits_below a p) (bits_below b q) in
    whole ∙ rw (to_z-of_z w32 a p, to_z-of_z w32 b q) (int_wrap_fits w32 (a *ℤ b) r)

sum_of_bits : (m n : ℕ) → m < 2 ^ 32 → n < 2 ^ 32 → FitsSigned w32 (to_z w32 m +ℤ to_z w32 n) →
    to_z w32 (plus m n) ≡ to_z w32 m +ℤ to_z w32 n
sum_of_bits m n p q r = wrapping_add-bits w32 m n p q ∙ int_wrap_fits w32 (to_z w32 m +ℤ to_z w32 n) r

reach_of_bits : (dx dy c s : ℤ) → unsigned_abs dx ≤ 999 → unsigned_abs dy ≤ 999 → unsigned_abs c ≤ 100000 →
    unsigned_abs s ≤ 100000 → FitsSigned w32 dx → FitsSigned w32 dy → FitsSigned w32 c → FitsSigned w32 s →
    to_z w32 (plus (times (of_z w32 dx) (of_z w32 c)) (times (of_z w32 dy) (of_z w32 s))) ≡ dx *ℤ c +ℤ dy *ℤ s
reach_of_bits dx dy c s near_x near_y near_c near_s fit_x fit_y fit_c fit_s =
    let m = times (of_z w32 dx) (of_z w32 c) in
    let n = times (of_z w32 dy) (of_z w32 s) in
    let east : to_z w32 m ≡ dx *ℤ c = part_of_bits dx c fit_x fit_c (part_fits dx c near_x near_c) in
    let north : to_z w32 n ≡ dy *ℤ s = part_of_bits dy s fit_y fit_s (part_fits dy s near_y near_s) in
    let fits = reach_fits dx dy c s near_x near_c near_y near_s in
    sum_of_bits m n (omega arith) (omega arith) (rw (east, north) fits) ∙ rw (east, north)

-- the reaches at n degrees side by side
reach_lanes : (dx dy : ℤ) → unsigned_abs dx ≤ 999 → unsigned_abs dy ≤ 999 → FitsSigned w32 dx → FitsSigned w32 dy →
    (n first ahead : ℕ) → ahead ≡ first + 90 → first + n ≤ 360 →
    map (to_z w32)
    (zip2 plus (zip2 times (replicate n (of_z w32 dx)) (map (of_z w32) (map round_sine (range_with_len ahead n))))
    (zip2 times (replicate n (of_z w32 dy)) (map (of_z w32) (map round_sine (range_with_len first n))))) ≡
    map (projection_of dx dy) (range_with_len first n)
unfolding projection_of cosine_at
reach_lanes dx dy near_x near_y fit_x fit_y zero first ahead e h = refl
reach_lanes dx dy near_x near_y fit_x fit_y (suc n) first ahead e h =
    let c = round_sine ahead in
    let s = round_sine first in
    let here =
    reach_of_bits dx dy c s near_x near_y (sine_bound (ahead % 360) (omega arith))
    (sine_bound (first % 360) (omega arith)) fit_x fit_y (sine_fits ahead) (sine_fits first) in
    let cosine : c ≡ sine_at ((first + 90) % 360) = ap (λ d. sine_at (d % 360)) e in
    let sine : s ≡ sine_at first = ap sine_at (omega arith) in
    rw (
      here,
      cosine,
      sine,
      reach_lanes dx dy near_x near_y fit_x fit_y n (first + 1) (ahead + 1) (omega arith) (omega arith),
    )

pub chunk_reaches_are : (dx dy : ℤ) → unsigned_abs dx ≤ 999 → unsigned_abs dy ≤ 999 → FitsSigned w32 dx →
    FitsSigned w32 dy → (first : ℕ) → first + 8 ≤ 360 → (cosines sines : List ℤ) →
    cosines ≡ map round_sine (range_with_len (first + 90) 8) → sines ≡ map round_sine (range_with_len first 8) →
    map (to_z w32)
    (zip2 plus (zip2 times (replicate 8 (of_z w32 dx)) (map (of_z w32) cosines))
    (zip2 times (replicate 8 (of_z w32 dy)) (map (of_z w32) sines))) ≡
    map (projection_of dx dy) (range_with_len first 8)
chunk_reaches_are dx dy near_x near_y fit_x fit_y first h cosines sines c s =
    ap
    (λ xs. map (to_z w32)
    (zip2 plus (zip2 times (replicate 8 (of_z w32 dx)) (map (of_z w32) xs))
    (zip2 times (replicate 8 (of_z w32 dy)) (map (of_z w32) sines)))) c
    ∙
    ap
    (λ xs. map (to_z w32)
    (zip2 plus
    (zip2 times (replicate 8 (of_z w32 dx)) (map (of_z w32) (map round_sine (range_with_len (first + 90) 8))))
    (zip2 times (replicate 8 (of_z w32 dy)) (map (of_z w32) xs)))) s
    ∙ reach_lanes dx dy near_x near_y fit_x fit_y 8 first (first + 90) refl h

-- the greatest of eight numbers
pub greatest_of : (xs : List ℤ) (n : ℕ) (most : ℤ) → length xs ≡ 8 → 8 ≤ n →
    most ≡ fold int_max (get_or xs 0 (pos 0)) (take n xs) → IsGreatest xs most
greatest_of xs n most size h e =
    let all : most ≡ fold int_max (get_or xs 0 (pos 0)) xs =
    e ∙ ap (fold int_max (get_or xs 0 (pos 0))) (take_all n xs (omega arith)) in
    record {
      reached = first_or_more (fold-int_max_reached (get_or xs 0 (pos 0)) xs most all);
      bound = (fold-int_max_bounds (get_or xs 0 (pos 0)) xs most all).1;
    }
  where
    default_is_free : (xs : List ℤ) (d e : ℤ) → 0 < length xs → get_or xs 0 d ≡ get_or xs 0 e
    default_is_free [] d e l = absurd (omega arith)
    default_is_free (x ∷ xs) d e l = refl

    first_or_more : (most ≡ get_or xs 0 (pos 0)) ⊎ Contains xs most → Contains xs most
    first_or_more (inl e) = (0, omega arith, default_is_free xs most (pos 0) (omega arith) ∙ sym e)
    first_or_more (inr c) = c

-- lanes are equal if their bits are
same_bits : (a b : ℤ) → FitsSigned w32 a → FitsSigned w32 b → eqb (of_z w32 b) (of_z w32 a) ≡ int_eq a b
same_bits a b p q =
    let bits = Decides-eqb (of_z w32 b) (of_z w32 a) in
    let numbers = Decides-int_eq a b in
    let back : of_z w32 b ≡ of_z w32 a → a ≡ b =
    λ e. sym (to_z-of_z w32 a p) ∙ ap (to_z w32) (sym e) ∙ to_z-of_z w32 b q in
    same_from_decides (eqb (of_z w32 b) (of_z w32 a)) (int_eq a b) bits
    (λ t. ap (of_z w32) (sym (numbers.0 t)), λ e. numbers.1 (back e))

equal_lanes : (a : ℤ) → FitsSigned w32 a → (xs : List ℤ) → All (FitsSigned w32) xs →
    map (λ b. eqb b (of_z w32 a)) (map (of_z w32) xs) ≡ map (int_eq a) xs
equal_lanes a p [] q = refl
equal_lanes a p (x ∷ xs) q =
    rw (same_bits a x p (q 0 x (omega arith)), equal_lanes a p xs (λ k d l. q (suc k) d (omega arith)))

-- the bits of the lanes that are equal, as one number
abbrev pub equal_mask : ℤ → List ℤ → ℕ
equal_mask a xs = mask_l (map (int_eq a) xs)

pub bitmask_is : (a : ℤ) → FitsSigned w32 a → (xs : List ℤ) → All (FitsSigned w32) xs → length xs ≡ 8 →
    mask_l (map (top 31) (zip2 (λ m n. cond (eqb m n) (2 ^ 32 - 1) 0) (map (of_z w32) xs) (replicate 8 (of_z w32 a)))) %
    2 ^ 64 ≡ equal_mask a xs
bitmask_is a p xs q size =
    bitmask_splat w32 eqb (map (of_z w32) xs) 8 (of_z w32 a) (simp length-map size) (omega arith) ∙
    ap mask_l (equal_lanes a p xs q)

lane_within : {X : Type 0} (p : X → Bool) (xs : List X) → 0 < mask_l (map p xs) →
    prefix_len (λ x. not (p x)) xs < length xs
lane_within p [] h = absurd (omega arith)
lane_within p (x ∷ xs) h = step (p x) (lane_within p xs) h
  where
    step : (b : Bool) → (0 < mask_l (map p xs) → prefix_len (λ x. not (p x)) xs < length xs) →
        0 < cond b 1 0 + 2 * mask_l (map p xs) → cond (not b) (1 + prefix_len (λ x. not (p x)) xs) 0 < suc (length xs)
    step true rest h = omega arith
    step false rest h = let within = rest (omega arith) in omega arith

-- the index of a lane, by how many come before it
lane_is : {X : Type 0} (p : X → Bool) (xs : List X) (n : ℕ) (b : Bool) → n ≡ prefix_len (λ x. not (p x)) xs →
    nat_lt n (length xs) ≡ b → cond b (Some n) None ≡ position p xs
lane_is p xs n b e t = rw (← t, e)

pub no_lane : {X : Type 0} (p : X → Bool) (xs : List X) → mask_l (map p xs) ≡ 0 → None ≡ position p xs
no_lane p xs h = lane_is p xs (length xs) false (sym (leading_from_mask_l p xs h)) (grind (arith, nat_tests))

pub first_lane : {X : Type 0} (p : X → Bool) (xs : List X) → length xs ≡ 8 → 0 < mask_l (map p xs) →
    Some (count_trailing_zeros 64 (mask_l (map p xs))) ≡ position p xs
first_lane p xs size h =
    let lane = trailing_mask_l p 64 xs (omega arith) h in
    let within = lane_within p xs h in
    lane_is p xs (count_trailing_zeros 64 (mask_l (map p xs))) true lane (rw lane (grind (arith, nat_tests)))

-- the reaches of a chunk fit
pub reaches_fit : (dx dy : ℤ) → unsigned_abs dx ≤ 999 → unsigned_abs dy ≤ 999 → (first : ℕ) → first + 8 ≤ 360 →
    (xs : List ℤ) → xs ≡ map (projection_of dx dy) (range_with_len first 8) → All (FitsSigned w32) xs × (length xs ≡ 8)
unfolding projection_of cosine_at
reaches_fit dx dy near_x near_y first h xs e =
    let size : length xs ≡ 8 = ap length e in (
      rw e (All-from_get_or (FitsSigned w32) (map (projection_of dx dy) (range_with_len first 8)) (pos 0) (λ k l.
          rw (get_or-map-range_with_len (projection_of dx dy) first 8 k (first + k) (pos 0) (omega (arith, l)) refl)
          (reach_fits dx dy (cosine_at (first + k)) (sine_at (first + k)) near_x
          (sine_bound ((first + k + 90) % 360) (omega arith)) near_y (sine_bound (first + k) (omega (arith, l)))))),
      size,
    )

-- numbers that fit are the same after a way through their bits
pub lanes_and_back : (xs : List ℤ) → All (FitsSigned w32) xs → map (to_z w32) (map (of_z w32) xs) ≡ xs
lanes_and_back [] fits = refl
lanes_and_back (x ∷ xs) fits =
    rw (to_z-of_z w32 x (fits 0 x (omega arith)), lanes_and_back xs (λ k d l. fits (suc k) d (omega arith)))

-- the greater of two numbers, one of which is held as its bits
greater_of : (m : ℕ) (a : ℤ) → FitsSigned w32 a →
    to_z w32 (cond (int_lt (to_z w32 m) (to_z w32 (of_z w32 a))) (of_z w32 a) m) ≡ int_max (to_z w32 m) a
greater_of m a p =
    rw (to_z-of_z w32 a p) (inside (int_lt (to_z w32 m) a) ∙ rw (to_z-of_z w32 a p) (other_way (to_z w32 m) a))
  where
    inside : (t : Bool) → to_z w32 (cond t (of_z w32 a) m) ≡ cond t (to_z w32 (of_z w32 a)) (to_z w32 m)
    inside true = refl
    inside false = refl

    other_way : (x y : ℤ) → cond (int_lt x y) y x ≡ int_max x y
    other_way x y = grind (arith, ints)

greater_lanes : (ms : List ℕ) (xs : List ℤ) → All (FitsSigned w32) xs →
    map (to_z w32)
    (sel_l (zip2 (λ m n. int_lt (to_z w32 m) (to_z w32 n)) ms (map (of_z w32) xs)) (map (of_z w32) xs) ms) ≡
    zip2 int_max (map (to_z w32) ms) xs
greater_lanes [] xs q = refl
greater_lanes (m ∷ ms) [] q = refl
greater_lanes (m ∷ ms) (x ∷ xs) q =
    rw (greater_of m x (q 0 x (omega arith)), greater_lanes ms xs (λ k d l. q (suc k) d (omega arith)))

pub max_lanes : (ms : List ℕ) (xs : List ℤ) → All (FitsSigned w32) xs →
    map (to_z w32)
    (sel_l
    (map (top 31) (zip2 (λ m n. cond (int_lt (to_z w32 m) (to_z w32 n)) (2 ^ 32 - 1) 0) ms (map (of_z w32) xs)))
    (map (of_z w32) xs) ms) ≡ zip2 int_max (map (to_z w32) ms) xs
max_lanes ms xs q =
    ap (λ ts. map (to_z w32) (sel_l ts (map (of_z w32) xs) ms))
    (tops_compared w32 (λ m n. int_lt (to_z w32 m) (to_z w32 n)) ms (map (of_z w32) xs))
    ∙ greater_lanes ms xs q
