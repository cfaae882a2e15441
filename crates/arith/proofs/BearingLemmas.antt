-- The reaches of a point, and the first index of the greatest.
use Rattle.std.proofs.Common.{◌≡◌, ℕ, zero, suc, ◌+◌, ◌*◌, ◌/◌, ◌%◌, ◌<◌, ◌≤◌, ℤ, pos, negsuc, ◌+ℤ◌, ◌*ℤ◌, ◌≤ℤ◌, ◌<ℤ◌, FitsSigned, unsigned_abs, List, [], ◌∷◌, length, get_or, map, fold, add-one, refl, sym, subst, ◌∙◌, ◌⊎◌, inl, inr, Bool, true, false, not, cond, nat_lt, Option, Some, None, ap, ◌-◌, arith}
use Rattle.std.specs.Int.{w32, int_max}
use Rattle.std.specs.Int.Signed.{≤ℤ_refl}
use Rattle.std.specs.List.{Contains, All, position, prefix_len, range_with_len}
use Rattle.std.specs.Simd.Lanes.{zip2}
use Rattle.std.specs.Ordering.{int_eq}
use borrow.Author.Count.{below_more}
use Rattle.std.proofs.lemmas.Int.{ints, to_z-of_z, fits_signed_from_abs, unsigned_abs-mul, by_lt_z, fold-int_max_bounds, fold-int_max_reached}
use Rattle.std.proofs.lemmas.Nat.{mul-le}
use Rattle.std.proofs.lemmas.List.Quantifiers.{position-Some}
use Rattle.std.proofs.lemmas.Simd.{get_or-zip2, length-zip2}
use Rattle.std.proofs.lemmas.List.Sums.{position_or_len_is, prefix_len_passes}
use Rattle.std.proofs.lemmas.Bool.Decides.{Decides-int_eq, nat_tests}
use Rattle.std.proofs.lemmas.List.FromFn.{length-map-range_with_len, get_or-map-range_with_len}
use Rattle.arith.specs.Table.{sines}
use Rattle.arith.specs.Circle.{sine_at, cosine_at}
use Rattle.arith.specs.Bearing.{projection_of, first_greatest, projections, bearing_of}
use Rattle.arith.specs.Furthest.{IsBearing, IsGreatest}

-- a reach fits 32 bits, and so do its two parts
size_of_sum : (a b : ℤ) → unsigned_abs (a +ℤ b) ≤ unsigned_abs a + unsigned_abs b
size_of_sum a b = omega (arith, ints)

part_size : (d s : ℤ) → unsigned_abs d ≤ 999 → unsigned_abs s ≤ 100000 → unsigned_abs (d *ℤ s) ≤ 99900000
part_size d s p q = rw (unsigned_abs-mul d s) (mul-le (unsigned_abs d) (unsigned_abs s) 999 100000 p q)

pub part_fits : (d s : ℤ) → unsigned_abs d ≤ 999 → unsigned_abs s ≤ 100000 → FitsSigned w32 (d *ℤ s)
part_fits d s p q = let size = part_size d s p q in fits_signed_from_abs w32 (d *ℤ s) (omega arith)

pub reach_fits : (dx dy cosine sine : ℤ) → unsigned_abs dx ≤ 999 → unsigned_abs cosine ≤ 100000 →
    unsigned_abs dy ≤ 999 → unsigned_abs sine ≤ 100000 → FitsSigned w32 (dx *ℤ cosine +ℤ dy *ℤ sine)
reach_fits dx dy cosine sine p q r s =
    let east = part_size dx cosine p q in
    let north = part_size dy sine r s in
    let sum = size_of_sum (dx *ℤ cosine) (dy *ℤ sine) in
    fits_signed_from_abs w32 (dx *ℤ cosine +ℤ dy *ℤ sine) (omega arith)

pub ruleset reach_steps = (to_z-of_z, part_fits, reach_fits)

-- among the first n indices, best is the first of the greatest
pub record IsFirstGreatest (f : ℕ → ℤ) (n best : ℕ) : Type 0 where
  pub within : best < n
  pub greatest : (k : ℕ) → k < n → f k ≤ℤ f best
  pub least : (k : ℕ) → k < best → f k <ℤ f best

pub alone : (f : ℕ → ℤ) → IsFirstGreatest f 1 0
alone f = record {
  within = omega arith;
  greatest = below_more (λ k. f k ≤ℤ f 0) 0 (λ k l. absurd (omega arith)) (≤ℤ_refl (f 0));
  least = λ k l. absurd (omega arith);
}

-- one index more, which is no greater, or is
pub kept : (f : ℕ → ℤ) (n best : ℕ) → IsFirstGreatest f n best → f n ≤ℤ f best → IsFirstGreatest f (n + 1) best
kept f n best is h = record {
  within = omega (arith, is.within);
  greatest = below_more (λ k. f k ≤ℤ f best) n is.greatest h;
  least = is.least;
}

pub raised : (f : ℕ → ℤ) (n best : ℕ) → IsFirstGreatest f n best → f best <ℤ f n → IsFirstGreatest f (n + 1) n
raised f n best is h =
    let lower : (k : ℕ) → k < n → f k <ℤ f n = λ k l. let e = is.greatest k l in omega (arith, ints) in
    record {
      within = omega arith;
      greatest = below_more (λ k. f k ≤ℤ f n) n (λ k l. let e = lower k l in omega (arith, ints)) (≤ℤ_refl (f n));
      least = lower;
    }

-- there is one
first_of_greatest : (f : ℕ → ℤ) (n : ℕ) → (best : ℕ) × IsFirstGreatest f (n + 1) best
first_of_greatest f zero = (0, alone f)
first_of_greatest f (suc n) =
    let b = first_of_greatest f n in
    rw (← add-one n)
    (by_lt_z (f b.0) (f (n + 1))
    (λ h. (n + 1, raised f (n + 1) b.0 b.1 h))
    (λ h. (b.0, kept f (n + 1) b.0 b.1 h)))

-- an entry that is there doesn't depend on what is answered for one that isn't
default_is_free : (xs : List ℤ) (k : ℕ) (d e : ℤ) → k < length xs → get_or xs k d ≡ get_or xs k e
default_is_free [] k d e h = absurd (omega arith)
default_is_free (x ∷ xs) zero d e h = refl
default_is_free (x ∷ xs) (suc k) d e h = default_is_free xs k d e (omega arith)

-- the greatest of a list is the entry at the index of its greatest
greatest_is : (x : ℤ) (xs : List ℤ) (top most : ℤ) → most ≡ fold int_max x xs → Contains (x ∷ xs) top →
    ((k : ℕ) → k < length (x ∷ xs) → get_or (x ∷ xs) k top ≤ℤ top) → most ≡ top
greatest_is x xs top most e at bound =
    let low = top_le x xs (fold-int_max_bounds x xs most e) at in
    let high = le_top x xs (fold-int_max_reached x xs most e) bound in
    omega (arith, ints)
  where
    top_le : (x : ℤ) (xs : List ℤ) → (x ≤ℤ most) × All (λ y. y ≤ℤ most) xs → Contains (x ∷ xs) top → top ≤ℤ most
    top_le x xs h (zero, l, e) = subst (λ y. y ≤ℤ most) e h.0
    top_le x xs h (suc k, l, e) = subst (λ y. y ≤ℤ most) e (h.1 k top (omega arith))

    le_top : (x : ℤ) (xs : List ℤ) → (most ≡ x) ⊎ Contains xs most →
        ((k : ℕ) → k < length (x ∷ xs) → get_or (x ∷ xs) k top ≤ℤ top) → most ≤ℤ top
    le_top x xs (inl e) bound = subst (λ y. y ≤ℤ top) (sym e) (bound 0 (omega arith))
    le_top x xs (inr (k, l, e)) bound =
        subst (λ y. y ≤ℤ top) (default_is_free xs k top most l ∙ e) (bound (suc k) (omega arith))

-- the test for equality at equal and at different numbers
equal_passes : (a : ℤ) → int_eq a a ≡ true
equal_passes a = (Decides-int_eq a a).1 refl

lesser_fails : (a b : ℤ) → b <ℤ a → int_eq a b ≡ false
lesser_fails a b h =
    is_false (int_eq a b) (λ e. let same : a ≡ b = (Decides-int_eq a b).0 e in absurd (omega (arith, ints)))
  where
    is_false : (t : Bool) → (t ≡ true → ⊥) → t ≡ false
    is_false true h = absurd (h refl)
    is_false false h = refl

-- the first index of the greatest is that index
first_greatest_is : (xs : List ℤ) (best : ℕ) (top : ℤ) → best < length xs → get_or xs best top ≡ top →
    ((k : ℕ) → k < length xs → get_or xs k top ≤ℤ top) → ((k : ℕ) → k < best → get_or xs k top <ℤ top) →
    first_greatest xs ≡ best
unfolding first_greatest
first_greatest_is [] best top within at greatest least = absurd (omega arith)
first_greatest_is (x ∷ xs) best top within at greatest least =
    let most = greatest_is x xs top (fold int_max x xs) refl (best, within, at) greatest in
    position_or_len_is (int_eq (fold int_max x xs)) (x ∷ xs) best top (omega arith)
    (λ k l. rw most (lesser_fails top (get_or (x ∷ xs) k top) (least k l)))
    (λ l. rw (most, at) (equal_passes top))

-- the same of the values at the first n indices
first_greatest-map : (f : ℕ → ℤ) (n best : ℕ) → IsFirstGreatest f n best →
    first_greatest (map f (range_with_len 0 n)) ≡ best
first_greatest-map f n best is =
    let values = map f (range_with_len 0 n) in
    let size = length-map-range_with_len f 0 n in
    let at = λ (k : ℕ) (l : k < n). get_or-map-range_with_len f 0 n k k (f best) l (omega arith) in
    first_greatest_is values best (f best) (omega (arith, is.within, size)) (at best is.within)
    (λ k l. let below : k < n = omega (arith, size) in rw (at k below) (is.greatest k below))
    (λ k l. let below : k < n = omega (arith, is.within) in rw (at k below) (is.least k l))

-- the bearing is the first of the greatest reaches, and `bearing_of` names it
pub bearing_is_first : (dx dy : ℤ) (degree : ℕ) → IsFirstGreatest (projection_of dx dy) 360 degree →
    IsBearing dx dy degree
bearing_is_first dx dy degree is = record { on_the_round = is.within; greatest = is.greatest; least = is.least }

pub bearing_of_is_first : (dx dy : ℤ) (degree : ℕ) → IsFirstGreatest (projection_of dx dy) 360 degree →
    degree ≡ bearing_of dx dy
unfolding bearing_of projections
bearing_of_is_first dx dy degree is = sym (first_greatest-map (projection_of dx dy) 360 degree is)

pub bearing_of-IsBearing : (dx dy : ℤ) → IsBearing dx dy (bearing_of dx dy)
bearing_of-IsBearing dx dy =
    let b = first_of_greatest (projection_of dx dy) 359 in
    subst (λ d. IsBearing dx dy d) (bearing_of_is_first dx dy b.0 b.1) (bearing_is_first dx dy b.0 b.1)

-- the reaches along the axes
reaches : (dx dy : ℤ) → (projection_of dx dy 0 ≡ dx *ℤ pos 100000) × (projection_of dx dy 90 ≡ dy *ℤ pos 100000)
    × (projection_of dx dy 180 ≡ dx *ℤ negsuc 99999) × (projection_of dx dy 270 ≡ dy *ℤ negsuc 99999)
unfolding projection_of cosine_at sine_at sines
reaches dx dy = (omega (arith, ints), omega (arith, ints), omega (arith, ints), omega (arith, ints))

-- one of the four is positive, and the bearing's is no less
pub bearing_reach : (dx dy : ℤ) → (dx ≡ pos 0 → dy ≡ pos 0 → ⊥) → pos 0 <ℤ projection_of dx dy (bearing_of dx dy)
bearing_reach dx dy apart =
    let top = (bearing_of-IsBearing dx dy).greatest in
    let east = rw (reaches dx dy).0 at (top 0 (omega arith)) in
    let north = rw (reaches dx dy).1 at (top 90 (omega arith)) in
    let west = rw (reaches dx dy).2 at (top 180 (omega arith)) in
    let south = rw (reaches dx dy).3 at (top 270 (omega arith)) in
    by_lt_z (pos 0) dx (λ h. omega (arith, ints)) (λ not_east.
    by_lt_z dx (pos 0) (λ h. omega (arith, ints)) (λ not_west.
    by_lt_z (pos 0) dy (λ h. omega (arith, ints)) (λ not_north.
    by_lt_z dy (pos 0) (λ h. omega (arith, ints)) (λ not_south.
    absurd (apart (omega (arith, ints)) (omega (arith, ints)))))))

-- each of eight lanes holds the greatest of its reaches in the first n chunks
pub record IsMostSoFar (dx dy : ℤ) (lanes : List ℤ) (n : ℕ) : Type 0 where
  pub size : length lanes ≡ 8
  pub bound : (chunk lane : ℕ) → chunk < n → lane < 8 →
      projection_of dx dy (8 * chunk + lane) ≤ℤ get_or lanes lane (pos 0)
  pub reached : (lane : ℕ) → lane < 8 →
      (chunk : ℕ) × (chunk < n) × (projection_of dx dy (8 * chunk + lane) ≡ get_or lanes lane (pos 0))

lane_at : (dx dy : ℤ) (chunk lane degree : ℕ) (xs : List ℤ) (d : ℤ) →
    xs ≡ map (projection_of dx dy) (range_with_len (8 * chunk) 8) → lane < 8 → 8 * chunk + lane ≡ degree →
    get_or xs lane d ≡ projection_of dx dy degree
lane_at dx dy chunk lane degree xs d e l at =
    rw e (get_or-map-range_with_len (projection_of dx dy) (8 * chunk) 8 lane degree d l at)

chunk_lane : (dx dy : ℤ) (chunk lane : ℕ) (xs : List ℤ) (d : ℤ) →
    xs ≡ map (projection_of dx dy) (range_with_len (8 * chunk) 8) → lane < 8 →
    get_or xs lane d ≡ projection_of dx dy (8 * chunk + lane)
chunk_lane dx dy chunk lane xs d e l = lane_at dx dy chunk lane (8 * chunk + lane) xs d e l refl

pub most_at_first : (dx dy : ℤ) (xs : List ℤ) → xs ≡ map (projection_of dx dy) (range_with_len (8 * 0) 8) →
    IsMostSoFar dx dy xs 1
most_at_first dx dy xs e = record {
  size = ap length e;
  bound = λ chunk lane h l. at_first lane l chunk (omega arith);
  reached = λ lane l. (0, omega arith, sym (chunk_lane dx dy 0 lane xs (pos 0) e l));
}
  where
    at_first : (lane : ℕ) → lane < 8 → (chunk : ℕ) → chunk ≡ 0 →
        projection_of dx dy (8 * chunk + lane) ≤ℤ get_or xs lane (pos 0)
    at_first lane l chunk c =
        rw (c, chunk_lane dx dy 0 lane xs (pos 0) e l) (≤ℤ_refl (projection_of dx dy (8 * 0 + lane)))

through : (a b c : ℤ) → a ≤ℤ b → b ≤ℤ c → a ≤ℤ c
through a b c p q = omega (arith, ints)

-- the greater of two numbers
max_bounds_left : (a b : ℤ) → a ≤ℤ int_max a b
max_bounds_left a b = grind (arith, ints)

max_bounds_right : (a b : ℤ) → b ≤ℤ int_max a b
max_bounds_right a b = grind (arith, ints)

max_is_either : (a b : ℤ) → (int_max a b ≡ a) ⊎ (int_max a b ≡ b)
max_is_either a b = by_lt_z b a (λ h. inl (grind (arith, ints))) (λ h. inr (grind (arith, ints)))

-- one chunk more
pub most_of_more : (dx dy : ℤ) (lanes xs : List ℤ) (n : ℕ) → IsMostSoFar dx dy lanes n →
    xs ≡ map (projection_of dx dy) (range_with_len (8 * n) 8) → IsMostSoFar dx dy (zip2 int_max lanes xs) (n + 1)
most_of_more dx dy lanes xs n so_far e =
    let eight : length xs ≡ 8 = ap length e in
    let same : length lanes ≡ length xs = so_far.size ∙ sym eight in
    let at =
    λ (lane : ℕ) (l : lane < 8). get_or-zip2 int_max lanes xs lane (pos 0) (pos 0) (pos 0)
    (omega (arith, so_far.size)) (omega (arith, eight)) in
    let new = λ (lane : ℕ) (l : lane < 8). chunk_lane dx dy n lane xs (pos 0) e l in
    record {
      size = length-zip2 int_max lanes xs same ∙ so_far.size;
      bound = λ chunk lane h l.
          below_more (λ k. projection_of dx dy (8 * k + lane) ≤ℤ get_or (zip2 int_max lanes xs) lane (pos 0)) n
          (λ k below. rw (at lane l)
          (through _ _ _ (so_far.bound k lane below l)
          (max_bounds_left (get_or lanes lane (pos 0)) (get_or xs lane (pos 0)))))
          (rw (at lane l, new lane l)
          (max_bounds_right (get_or lanes lane (pos 0)) (projection_of dx dy (8 * n + lane))))
          chunk h;
      reached =
          λ lane l. either lane (at lane l) (new lane l) (so_far.reached lane l)
          (max_is_either (get_or lanes lane (pos 0)) (get_or xs lane (pos 0)));
    }
  where
    either : (lane : ℕ) →
        get_or (zip2 int_max lanes xs) lane (pos 0) ≡ int_max (get_or lanes lane (pos 0)) (get_or xs lane (pos 0)) →
        get_or xs lane (pos 0) ≡ projection_of dx dy (8 * n + lane) →
        ((chunk : ℕ) × (chunk < n) × (projection_of dx dy (8 * chunk + lane) ≡ get_or lanes lane (pos 0))) →
        (int_max (get_or lanes lane (pos 0)) (get_or xs lane (pos 0)) ≡ get_or lanes lane (pos 0)) ⊎
        (int_max (get_or lanes lane (pos 0)) (get_or xs lane (pos 0)) ≡ get_or xs lane (pos 0)) →
        (chunk : ℕ) × (chunk < n + 1) ×
        (projection_of dx dy (8 * chunk + lane) ≡ get_or (zip2 int_max lanes xs) lane (pos 0))
    either lane at new (chunk, below, old) (inl m) = (chunk, omega arith, old ∙ sym m ∙ sym at)
    either lane at new (chunk, below, old) (inr m) = (n, omega arith, sym new ∙ sym m ∙ sym at)

-- a degree of the round among the reaches
reach_at : (dx dy : ℤ) (degree : ℕ) (d : ℤ) → degree < 360 →
    get_or (projections dx dy) degree d ≡ projection_of dx dy degree
unfolding projections
reach_at dx dy degree d l = get_or-map-range_with_len (projection_of dx dy) 0 360 degree degree d l (omega arith)

-- after all chunks the greatest lane is the greatest reach
pub most_of_all : (dx dy : ℤ) (lanes : List ℤ) (n : ℕ) (most : ℤ) → n ≡ 45 → IsMostSoFar dx dy lanes n →
    IsGreatest lanes most → IsGreatest (projections dx dy) most
unfolding projections
most_of_all dx dy lanes n most whole so_far is = record {
  reached = found is.reached;
  bound = λ k d l. rw (reach_at dx dy k d l) (below k l);
}
  where
    below : (k : ℕ) → k < 360 → projection_of dx dy k ≤ℤ most
    below k l =
        let parts : 8 * (k / 8) + k % 8 ≡ k = omega arith in
        let lane = so_far.bound (k / 8) (k % 8) (omega arith) (omega arith) in
        let top = is.bound (k % 8) (pos 0) (omega (arith, so_far.size)) in
        through _ _ _ (rw parts at lane) top

    found : Contains lanes most → Contains (projections dx dy) most
    found (lane, l, e) =
        let r = so_far.reached lane (omega (arith, so_far.size)) in
        let within : 8 * r.0 + lane < 360 = omega (arith, so_far.size, r.1) in (
          8 * r.0 + lane,
          within,
          reach_at dx dy (8 * r.0 + lane) most within ∙ r.2 ∙ default_is_free lanes lane (pos 0) most l ∙ e,
        )

-- a number below the greatest that differs from it is less
not_at : (most reach : ℤ) → int_eq most reach ≡ false → reach ≤ℤ most → reach <ℤ most
not_at most reach e bound =
    by_lt_z reach most (λ h. h) (λ h.
    let same : most ≡ reach = omega (arith, ints) in
    let passes = (Decides-int_eq most reach).1 same in absurd (cc))

-- below or not
by_lt : {P : Type 0} (a b : ℕ) → (a < b → P) → (b ≤ a → P) → P
by_lt a b f g = by_test (nat_lt a b) f g (grind (arith, nat_tests)) (grind (arith, nat_tests))
  where
    by_test : {P : Type 0} (t : Bool) → (a < b → P) → (b ≤ a → P) → (t ≡ true → a < b) → (t ≡ false → b ≤ a) → P
    by_test true f g p q = f (p refl)
    by_test false f g p q = g (q refl)

-- if `position` finds none, none passes
none_passes : {X : Type 0} (p : X → Bool) (xs : List X) → None ≡ position p xs → (k : ℕ) (d : X) → k < length xs →
    p (get_or xs k d) ≡ false
none_passes p xs e k d l =
    fails (p (get_or xs k d))
    (prefix_len_passes (λ x. not (p x)) xs k d
    (past (prefix_len (λ x. not (p x)) xs) (nat_lt (prefix_len (λ x. not (p x)) xs) (length xs))
    (λ q. grind (arith, nat_tests)) e))
  where
    fails : (b : Bool) → not b ≡ true → b ≡ false
    fails true h = absurd (cc)
    fails false h = refl

    past : (n : ℕ) (t : Bool) → (t ≡ false → length xs ≤ n) → ◌≡◌ {A = Option ℕ} None (cond t (Some n) None) → k < n
    past n true q h = absurd (cc)
    past n false q h = let all = q refl in omega arith

-- the first lane of the first chunk that reaches furthest
pub first_of_chunk : (dx dy most : ℤ) (chunk lane : ℕ) → chunk < 45 → IsGreatest (projections dx dy) most →
    ((degree : ℕ) → degree < 8 * chunk → projection_of dx dy degree <ℤ most) →
    Some lane ≡ position (int_eq most) (map (projection_of dx dy) (range_with_len (8 * chunk) 8)) →
    IsFirstGreatest (projection_of dx dy) 360 (8 * chunk + lane)
unfolding projections
first_of_chunk dx dy most chunk lane h is before e =
    let xs = map (projection_of dx dy) (range_with_len (8 * chunk) 8) in
    let found = position-Some (int_eq most) xs lane (pos 0) (sym e) in
    let within : 8 * chunk + lane < 360 = omega (arith, found.0) in
    let top : most ≡ projection_of dx dy (8 * chunk + lane) =
    (Decides-int_eq most (get_or xs lane (pos 0))).0 found.1 ∙ chunk_lane dx dy chunk lane xs (pos 0) refl found.0 in
    let bound = λ (k : ℕ) (l : k < 360). rw (reach_at dx dy k (pos 0) l) at (is.bound k (pos 0) l) in
    record {
      within = within;
      greatest = λ k l. rw (← top) (bound k l);
      least = λ k l. rw (← top) (lower found.0 found.2 bound k (omega (arith, l, found.0)) l);
    }
  where
    lower : lane < 8 →
        ((j : ℕ) → j < lane →
        int_eq most (get_or (map (projection_of dx dy) (range_with_len (8 * chunk) 8)) j (pos 0)) ≡ false) →
        ((k : ℕ) → k < 360 → projection_of dx dy k ≤ℤ most) → (k : ℕ) → k < 360 → k < 8 * chunk + lane →
        projection_of dx dy k <ℤ most
    lower small fails bound k round l =
        by_lt k (8 * chunk) (λ below. before k below) (λ after.
        let xs = map (projection_of dx dy) (range_with_len (8 * chunk) 8) in
        let here = lane_at dx dy chunk (k - 8 * chunk) k xs (pos 0) refl (omega arith) (omega arith) in
        not_at most (projection_of dx dy k) (rw here at (fails (k - 8 * chunk) (omega arith))) (bound k round))

pub none_in_chunk : (dx dy most : ℤ) (chunk : ℕ) → chunk < 45 → IsGreatest (projections dx dy) most →
    ((degree : ℕ) → degree < 8 * chunk → projection_of dx dy degree <ℤ most) →
    None ≡ position (int_eq most) (map (projection_of dx dy) (range_with_len (8 * chunk) 8)) → (degree : ℕ) →
    degree < 8 * (chunk + 1) → projection_of dx dy degree <ℤ most
unfolding projections
none_in_chunk dx dy most chunk h is before e degree l =
    by_lt degree (8 * chunk) (λ below. before degree below) (λ after.
    let xs = map (projection_of dx dy) (range_with_len (8 * chunk) 8) in
    let here = lane_at dx dy chunk (degree - 8 * chunk) degree xs (pos 0) refl (omega arith) (omega arith) in
    let fails = none_passes (int_eq most) xs e (degree - 8 * chunk) (pos 0) (omega arith) in
    let bound = rw (reach_at dx dy degree (pos 0) (omega arith)) at (is.bound degree (pos 0) (omega arith)) in
    not_at most (projection_of dx dy degree) (rw here at fails) bound)

-- some degree reaches furthest
pub some_reaches : (dx dy most : ℤ) → IsGreatest (projections dx dy) most →
    ((degree : ℕ) → degree < 360 → projection_of dx dy degree <ℤ most) → ⊥
unfolding projections
some_reaches dx dy most is below = never is.reached
  where
    never : Contains (projections dx dy) most → ⊥
    never (k, l, e) =
        let less = below k l in
        let same : projection_of dx dy k ≡ most = sym (reach_at dx dy k most l) ∙ e in
        absurd (omega (arith, ints))
