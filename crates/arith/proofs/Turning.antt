-- The ways from each degree of the round to the next turn left. So a point's reach rises along the half round before
-- its bearing, and falls along the half after it.
use Rattle.std.proofs.Common.{◌≡◌, ℕ, zero, suc, ◌+◌, ◌*◌, ◌-◌, ◌/◌, ◌%◌, ◌<◌, ◌≤◌, ◌⊎◌, inl, inr, ℤ, pos, negsuc, neg_ℤ, ◌+ℤ◌, ◌-ℤ◌, ◌*ℤ◌, ◌≤ℤ◌, ◌<ℤ◌, int_lt, refl, sym, ap, subst, ◌∙◌, Bool, true, arith}
use Rattle.std.specs.Ordering.{int_eq}
use Rattle.std.proofs.lemmas.Int.{ints, by_lt_z}
use Rattle.std.proofs.lemmas.Bool.Decides.{Decides-int_eq}
use Rattle.arith.specs.Table.{sines}
use Rattle.arith.specs.Circle.{sine_at, cosine_at}
use Rattle.arith.specs.Bearing.{projection_of}
use Rattle.arith.proofs.Below.{passes_below, passes_at}
use Rattle.arith.proofs.Products.{distributes, distributes_less, commutes, swap, negated, scaled}

-- the signs of products
both_above : (a b : ℤ) → pos 0 <ℤ a → pos 0 <ℤ b → pos 0 <ℤ (a *ℤ b)
both_above (pos zero) b h k = absurd (omega (arith, ints))
both_above (negsuc a) b h k = absurd (omega (arith, ints))
both_above (pos (suc a)) (pos zero) h k = absurd (omega (arith, ints))
both_above (pos (suc a)) (negsuc b) h k = absurd (omega (arith, ints))
both_above (pos (suc a)) (pos (suc b)) h k = omega (arith, ints)

above_below : (a b : ℤ) → pos 0 <ℤ a → b <ℤ pos 0 → (a *ℤ b) <ℤ pos 0
above_below a b h k =
    let n = both_above a (neg_ℤ b) h (omega (arith, ints)) in
    let e = commutes a (neg_ℤ b) ∙ negated b a ∙ ap neg_ℤ (commutes b a) in
    let m = rw e at n in
    omega (arith, ints)

-- the signs of k z, where k z = a x + b y: x is not below 0, y not above, and not both are 0
not_below : (a x : ℤ) → pos 0 <ℤ a → pos 0 ≤ℤ x → (pos 0 <ℤ (a *ℤ x)) ⊎ ((x ≡ pos 0) × (a *ℤ x ≡ pos 0))
not_below a x h k = by_lt_z (pos 0) x (λ l. inl (both_above a x h l)) (λ l.
    let none : x ≡ pos 0 = omega (arith, ints) in inr (none, rw none (omega (arith, ints))))

not_above : (b y : ℤ) → pos 0 <ℤ b → y ≤ℤ pos 0 → ((b *ℤ y) <ℤ pos 0) ⊎ ((y ≡ pos 0) × (b *ℤ y ≡ pos 0))
not_above b y h k = by_lt_z y (pos 0) (λ l. inl (above_below b y h l)) (λ l.
    let none : y ≡ pos 0 = omega (arith, ints) in inr (none, rw none (omega (arith, ints))))

-- a x - b y is above 0
apart_signs : (a x b y : ℤ) → pos 0 <ℤ a → pos 0 ≤ℤ x → pos 0 <ℤ b → y ≤ℤ pos 0 → (x ≡ pos 0 → y ≡ pos 0 → ⊥) →
    pos 0 <ℤ (a *ℤ x -ℤ b *ℤ y)
apart_signs a x b y ha hx hb hy some = by_cases (not_below a x ha hx) (not_above b y hb hy)
  where
    by_cases : ((pos 0 <ℤ (a *ℤ x)) ⊎ ((x ≡ pos 0) × (a *ℤ x ≡ pos 0))) →
        (((b *ℤ y) <ℤ pos 0) ⊎ ((y ≡ pos 0) × (b *ℤ y ≡ pos 0))) → pos 0 <ℤ (a *ℤ x -ℤ b *ℤ y)
    by_cases (inl p) (inl q) = omega (arith, ints)
    by_cases (inl p) (inr q) = omega (arith, ints, q.1)
    by_cases (inr p) (inl q) = omega (arith, ints, p.1)
    by_cases (inr p) (inr q) = absurd (some p.0 q.0)

above_from_product : (k z : ℤ) → pos 0 <ℤ k → pos 0 <ℤ (k *ℤ z) → pos 0 <ℤ z
above_from_product k z h p = by_lt_z (pos 0) z (λ l. l) (λ l. absurd (not_so (not_above k z h l)))
  where
    not_so : (((k *ℤ z) <ℤ pos 0) ⊎ ((z ≡ pos 0) × (k *ℤ z ≡ pos 0))) → ⊥
    not_so (inl q) = omega (arith, ints)
    not_so (inr q) = omega (arith, ints, q.1)

below_from_product : (k z : ℤ) → pos 0 <ℤ k → (k *ℤ z) <ℤ pos 0 → z <ℤ pos 0
below_from_product k z h p = by_lt_z z (pos 0) (λ l. l) (λ l. absurd (not_so (not_below k z h l)))
  where
    not_so : ((pos 0 <ℤ (k *ℤ z)) ⊎ ((z ≡ pos 0) × (k *ℤ z ≡ pos 0))) → ⊥
    not_so (inl q) = omega (arith, ints)
    not_so (inr q) = omega (arith, ints, q.1)

none_from_product : (k z : ℤ) → pos 0 <ℤ k → k *ℤ z ≡ pos 0 → z ≡ pos 0
none_from_product k z h e =
    by_lt_z (pos 0) z (λ l. absurd (omega (arith, ints, both_above k z h l)))
    (λ l. by_lt_z z (pos 0) (λ m. absurd (omega (arith, ints, above_below k z h m))) (λ m. omega (arith, ints)))

spread_out : (p q r s k : ℤ) → (p *ℤ q -ℤ r *ℤ s) *ℤ k ≡ k *ℤ (p *ℤ q) -ℤ k *ℤ (r *ℤ s)
spread_out p q r s k = commutes (p *ℤ q -ℤ r *ℤ s) k ∙ distributes_less k (p *ℤ q) (r *ℤ s)

reversed : (x y z : ℤ) → x *ℤ (y *ℤ z) ≡ z *ℤ (y *ℤ x)
reversed x y z = swap x y z ∙ ap (λ t. y *ℤ t) (commutes x z) ∙ swap y z x

rolled : (x y z : ℤ) → x *ℤ (y *ℤ z) ≡ z *ℤ (x *ℤ y)
rolled x y z = ap (λ t. x *ℤ t) (commutes y z) ∙ swap x z y

-- a way v by two others, a and c
combined_x : (ax ay cx cy vx vy : ℤ) →
    (ax *ℤ cy -ℤ ay *ℤ cx) *ℤ vx ≡ (vx *ℤ cy -ℤ vy *ℤ cx) *ℤ ax +ℤ (ax *ℤ vy -ℤ ay *ℤ vx) *ℤ cx
combined_x ax ay cx cy vx vy =
    rw (
      spread_out ax cy ay cx vx,
      spread_out vx cy vy cx ax,
      spread_out ax vy ay vx cx,
      swap vx ax cy,
      reversed vx ay cx,
      rolled ax vy cx,
    ) (omega (arith, ints))

combined_y : (ax ay cx cy vx vy : ℤ) →
    (ax *ℤ cy -ℤ ay *ℤ cx) *ℤ vy ≡ (vx *ℤ cy -ℤ vy *ℤ cx) *ℤ ay +ℤ (ax *ℤ vy -ℤ ay *ℤ vx) *ℤ cy
combined_y ax ay cx cy vx vy =
    rw (
      spread_out ax cy ay cx vy,
      spread_out vx cy vy cx ay,
      spread_out ax vy ay vx cy,
      swap vy ay cx,
      reversed vy ax cy,
      rolled ay vx cy,
    ) (omega (arith, ints))

-- so of the products with a point p too
combined : (px py ax ay cx cy vx vy : ℤ) →
    (ax *ℤ cy -ℤ ay *ℤ cx) *ℤ (px *ℤ vx +ℤ py *ℤ vy) ≡
    (vx *ℤ cy -ℤ vy *ℤ cx) *ℤ (px *ℤ ax +ℤ py *ℤ ay) +ℤ (ax *ℤ vy -ℤ ay *ℤ vx) *ℤ (px *ℤ cx +ℤ py *ℤ cy)
combined px py ax ay cx cy vx vy =
    let k = ax *ℤ cy -ℤ ay *ℤ cx in
    let m = vx *ℤ cy -ℤ vy *ℤ cx in
    let n = ax *ℤ vy -ℤ ay *ℤ vx in
    let x : px *ℤ (k *ℤ vx) ≡ px *ℤ (m *ℤ ax) +ℤ px *ℤ (n *ℤ cx) =
    ap (λ z. px *ℤ z) (combined_x ax ay cx cy vx vy) ∙ distributes px (m *ℤ ax) (n *ℤ cx) in
    let y : py *ℤ (k *ℤ vy) ≡ py *ℤ (m *ℤ ay) +ℤ py *ℤ (n *ℤ cy) =
    ap (λ z. py *ℤ z) (combined_y ax ay cx cy vx vy) ∙ distributes py (m *ℤ ay) (n *ℤ cy) in
    rw (scaled k px py vx vy, scaled m px py ax ay, scaled n px py cx cy, x, y) (omega (arith, ints))

-- the way from the end of a degree to that of the next one
edge_x : ℕ → ℤ
edge_x n = sine_at ((n + 91) % 360) -ℤ sine_at ((n + 90) % 360)

edge_y : ℕ → ℤ
edge_y n = sine_at ((n + 1) % 360) -ℤ sine_at (n % 360)

-- above 0 if the way of m turns left of that of n
cross : ℕ → ℕ → ℤ
cross n m = edge_x n *ℤ edge_y m -ℤ edge_y n *ℤ edge_x m

-- it does for the 179 after each of the first quarter
turns : ℤ → ℤ → ℕ → Bool
turns x y m = int_lt (pos 0) (x *ℤ edge_y m -ℤ y *ℤ edge_x m)

turns_from : ℕ → Bool
turns_from n = let x = edge_x n in let y = edge_y n in passes_below (λ s. turns x y (n + 1 + s)) 179

first_quarter : passes_below turns_from 90 ≡ true
unfolding turns_from turns edge_x edge_y sine_at sines
first_quarter = refl

-- half a round further a sine is negative, so a quarter further the ways are turned by a quarter
is_opposite : ℕ → Bool
is_opposite n = int_eq (sine_at ((n + 180) % 360)) (neg_ℤ (sine_at n))

all_opposite : passes_below is_opposite 360 ≡ true
unfolding is_opposite sine_at sines
all_opposite = refl

opposite : (n : ℕ) → sine_at ((n + 180) % 360) ≡ neg_ℤ (sine_at (n % 360))
unfolding is_opposite
opposite n =
    let k = n % 360 in
    let test = passes_at is_opposite 360 all_opposite k (omega arith) in
    let same : (n + 180) % 360 ≡ (k + 180) % 360 = omega arith in
    ap sine_at same ∙ (Decides-int_eq (sine_at ((k + 180) % 360)) (neg_ℤ (sine_at k))).0 test

quarter_x : (n : ℕ) → edge_x (n + 90) ≡ neg_ℤ (edge_y n)
unfolding edge_x edge_y
quarter_x n =
    let p : sine_at ((n + 90 + 91) % 360) ≡ neg_ℤ (sine_at ((n + 1) % 360)) =
    ap (λ k. sine_at (k % 360)) (omega arith) ∙ opposite (n + 1) in
    let q : sine_at ((n + 90 + 90) % 360) ≡ neg_ℤ (sine_at (n % 360)) =
    ap (λ k. sine_at (k % 360)) (omega arith) ∙ opposite n in
    rw (p, q) (omega (arith, ints))

quarter_y : (n : ℕ) → edge_y (n + 90) ≡ edge_x n
unfolding edge_x edge_y
quarter_y n =
    let p : sine_at ((n + 90 + 1) % 360) ≡ sine_at ((n + 91) % 360) = ap (λ k. sine_at (k % 360)) (omega arith) in
    rw p refl

quarter : (n m : ℕ) → cross (n + 90) (m + 90) ≡ cross n m
unfolding cross
quarter n m =
    rw (
      quarter_x n,
      quarter_y n,
      quarter_x m,
      quarter_y m,
      negated (edge_y n) (edge_x m),
      commutes (edge_x n) (neg_ℤ (edge_y m)),
      negated (edge_y m) (edge_x n),
      commutes (edge_y m) (edge_x n),
    )
    (omega (arith, ints))

is_above : (z : ℤ) → int_lt (pos 0) z ≡ true → pos 0 <ℤ z
is_above z h = omega (arith, ints)

turns_left_by : (q r m : ℕ) → r < 90 → 90 * q + r < m → m ≤ 90 * q + r + 179 → pos 0 <ℤ cross (90 * q + r) m
unfolding cross turns_from turns
turns_left_by zero r m small below near =
    let s = m - (r + 1) in
    let row = passes_at turns_from 90 first_quarter r small in
    let test = passes_at (λ s. turns (edge_x r) (edge_y r) (r + 1 + s)) 179 row s (omega arith) in
    let sum : r + 1 + s ≡ m = omega arith in
    let here : turns (edge_x r) (edge_y r) m ≡ true = ap (turns (edge_x r) (edge_y r)) (sym sum) ∙ test in
    let Turns : ℕ → Type 0 = λ k. pos 0 <ℤ cross k m in
    subst Turns (omega arith) (is_above (cross r m) here)
turns_left_by (suc q) r m small below near =
    let back = turns_left_by q r (m - 90) small (omega arith) (omega arith) in
    let n_is : 90 * suc q + r ≡ 90 * q + r + 90 = omega arith in
    let m_is : m ≡ m - 90 + 90 = omega arith in
    let Turns : ℤ → Type 0 = λ z. pos 0 <ℤ z in
    subst Turns
    (sym (quarter (90 * q + r) (m - 90)) ∙ ap (λ n. cross n (m - 90 + 90)) (sym n_is) ∙
    ap (cross (90 * suc q + r)) (sym m_is)) back

turns_left : (n m : ℕ) → n < m → m ≤ n + 179 → pos 0 <ℤ cross n m
turns_left n m below near =
    let parts : 90 * (n / 90) + n % 90 ≡ n = omega arith in
    let Turns : ℕ → Type 0 = λ k. pos 0 <ℤ cross k m in
    subst Turns parts (turns_left_by (n / 90) (n % 90) m (omega arith) (omega arith) (omega arith))

turned : (n m : ℕ) → cross n m ≡ neg_ℤ (cross m n)
unfolding cross
turned n m = rw (commutes (edge_x n) (edge_y m), commutes (edge_y n) (edge_x m)) (omega (arith, ints))

-- how much further a point reaches at the next degree
pub gain : ℤ → ℤ → ℕ → ℤ
gain dx dy n = dx *ℤ edge_x n +ℤ dy *ℤ edge_y n

pub gains : (dx dy : ℤ) (n from to : ℕ) → from ≡ n % 360 → to ≡ (n + 1) % 360 →
    projection_of dx dy to ≡ projection_of dx dy from +ℤ gain dx dy n
unfolding gain edge_x edge_y projection_of cosine_at
gains dx dy n from to p q =
    let here : sine_at ((from + 90) % 360) ≡ sine_at ((n + 90) % 360) = ap sine_at (omega arith) in
    let next : sine_at ((to + 90) % 360) ≡ sine_at ((n + 91) % 360) = ap sine_at (omega arith) in
    let east = distributes_less dx (sine_at ((n + 91) % 360)) (sine_at ((n + 90) % 360)) in
    let north = distributes_less dy (sine_at ((n + 1) % 360)) (sine_at (n % 360)) in
    rw (here, next, p, q, east, north) (omega (arith, ints))

-- the gain at one degree by those at another and at the next one
whole : (dx dy : ℤ) (i j : ℕ) →
    cross i (i + 1) *ℤ gain dx dy j ≡ cross j (i + 1) *ℤ gain dx dy i +ℤ cross i j *ℤ gain dx dy (i + 1)
unfolding gain cross
whole dx dy i j = combined dx dy (edge_x i) (edge_y i) (edge_x (i + 1)) (edge_y (i + 1)) (edge_x j) (edge_y j)

none_whole : (k z a x b y : ℤ) → pos 0 <ℤ k → k *ℤ z ≡ a *ℤ x +ℤ b *ℤ y → x ≡ pos 0 → y ≡ pos 0 → z ≡ pos 0
none_whole k z a x b y h e p q =
    let none : a *ℤ pos 0 +ℤ b *ℤ pos 0 ≡ pos 0 = omega (arith, ints) in
    none_from_product k z h (e ∙ rw (p, q) none)

pub some_turn : (dx dy : ℤ) (i : ℕ) → (dx ≡ pos 0 → dy ≡ pos 0 → ⊥) → gain dx dy i ≡ pos 0 →
    gain dx dy (i + 1) ≡ pos 0 → ⊥
unfolding gain cross
some_turn dx dy i some x y =
    let left = turns_left i (i + 1) (omega arith) (omega arith) in
    let solve =
    λ (vx vy : ℤ). none_whole (cross i (i + 1)) (dx *ℤ vx +ℤ dy *ℤ vy) _ (gain dx dy i) _ (gain dx dy (i + 1)) left
    (combined dx dy (edge_x i) (edge_y i) (edge_x (i + 1)) (edge_y (i + 1)) vx vy) x y in
    let east = solve (pos 1) (pos 0) in
    let north = solve (pos 0) (pos 1) in
    some (omega (arith, ints, east)) (omega (arith, ints, north))

-- the gains before and after a greatest reach
risen : (p a b c : ℤ) → p ≡ a +ℤ b → b ≡ neg_ℤ c → pos 0 <ℤ (a -ℤ c) → pos 0 <ℤ p
risen p a b c e f h = omega (arith, ints)

fallen : (p a b c : ℤ) → p ≡ a +ℤ b → a ≡ neg_ℤ c → pos 0 <ℤ (c -ℤ b) → p <ℤ pos 0
fallen p a b c e f h = omega (arith, ints)

turned_by : (i j : ℕ) (z : ℤ) → cross i j *ℤ z ≡ neg_ℤ (cross j i *ℤ z)
turned_by i j z = ap (λ k. k *ℤ z) (turned i j) ∙ negated (cross j i) z

pub rises : (dx dy : ℤ) (i j : ℕ) → (dx ≡ pos 0 → dy ≡ pos 0 → ⊥) → pos 0 ≤ℤ gain dx dy i →
    gain dx dy (i + 1) ≤ℤ pos 0 → j < i → i + 1 ≤ j + 179 → pos 0 <ℤ gain dx dy j
rises dx dy i j some x y before near =
    let here = gain dx dy i in
    let next = gain dx dy (i + 1) in
    let sum =
    apart_signs (cross j (i + 1)) here (cross j i) next (turns_left j (i + 1) (omega arith) near) x
    (turns_left j i before (omega arith)) y (some_turn dx dy i some) in
    above_from_product (cross i (i + 1)) (gain dx dy j) (turns_left i (i + 1) (omega arith) (omega arith))
    (risen (cross i (i + 1) *ℤ gain dx dy j) (cross j (i + 1) *ℤ here) (cross i j *ℤ next) (cross j i *ℤ next)
    (whole dx dy i j) (turned_by i j next) sum)

pub falls : (dx dy : ℤ) (i j : ℕ) → (dx ≡ pos 0 → dy ≡ pos 0 → ⊥) → pos 0 ≤ℤ gain dx dy i →
    gain dx dy (i + 1) ≤ℤ pos 0 → i + 1 < j → j ≤ i + 179 → gain dx dy j <ℤ pos 0
falls dx dy i j some x y after near =
    let here = gain dx dy i in
    let next = gain dx dy (i + 1) in
    let sum =
    apart_signs (cross (i + 1) j) here (cross i j) next (turns_left (i + 1) j after (omega arith)) x
    (turns_left i j (omega arith) near) y (some_turn dx dy i some) in
    below_from_product (cross i (i + 1)) (gain dx dy j) (turns_left i (i + 1) (omega arith) (omega arith))
    (fallen (cross i (i + 1) *ℤ gain dx dy j) (cross j (i + 1) *ℤ here) (cross i j *ℤ next) (cross (i + 1) j *ℤ here)
    (whole dx dy i j) (turned_by j (i + 1) here) sum)

-- half a round further the gain is the opposite
pub gains_back : (dx dy : ℤ) (n : ℕ) → gain dx dy (n + 180) ≡ neg_ℤ (gain dx dy n)
unfolding gain
gains_back dx dy n =
    let m : n + 180 ≡ n + 90 + 90 = omega arith in
    let x : edge_x (n + 180) ≡ neg_ℤ (edge_x n) = ap edge_x m ∙ quarter_x (n + 90) ∙ ap neg_ℤ (quarter_y n) in
    let y : edge_y (n + 180) ≡ neg_ℤ (edge_y n) = ap edge_y m ∙ quarter_y (n + 90) ∙ quarter_x n in
    rw (
      x,
      y,
      commutes dx (neg_ℤ (edge_x n)),
      negated (edge_x n) dx,
      commutes (edge_x n) dx,
      commutes dy (neg_ℤ (edge_y n)),
      negated (edge_y n) dy,
      commutes (edge_y n) dy,
    ) (omega (arith, ints))
