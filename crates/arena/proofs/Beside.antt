-- A point whose bearing is less than a right angle from a degree doesn't reach backwards there.
use Rattle.std.proofs.Common.{◌≡◌, ◌⊎◌, inl, inr, ℕ, zero, suc, ◌+◌, ◌-◌, ◌%◌, ◌<◌, ◌≤◌, ℤ, pos, negsuc, unsigned_abs, neg_ℤ, ◌+ℤ◌, ◌-ℤ◌, ◌*ℤ◌, ◌≤ℤ◌, ◌<ℤ◌, nat_lt, nat_le, Bool, true, false, ◌&&◌, refl, sym, ap, subst, ◌∙◌, arith}
use Rattle.std.specs.Ordering.{int_eq}
use Rattle.std.proofs.lemmas.Int.{ints, unsigned_abs-mul}
use Rattle.std.proofs.lemmas.Nat.{mul-le}
use Rattle.std.proofs.lemmas.Bool.{and_parts, cases_lt}
use Rattle.std.proofs.lemmas.Bool.Decides.{Decides-int_eq, nat_tests, leb_tells}
use Rattle.arith.specs.Table.{sines}
use Rattle.arith.specs.Circle.{sine_at, cosine_at}
use Rattle.arith.specs.Degree.{apart}
use Rattle.arith.specs.Bearing.{projection_of, bearing_of}
use Rattle.arith.specs.Furthest.{IsBearing}
use Rattle.arith.proofs.Below.{passes_below, passes_at}
use Rattle.arith.proofs.BearingLemmas.{bearing_of-IsBearing}
use Rattle.arith.proofs.Products.{distributes, distributes_less, scaled}

-- products with a positive number
times : (n : ℕ) (z : ℤ) → pos 0 ≤ℤ z → pos 0 ≤ℤ (pos n *ℤ z)
times n (pos m) h = omega (arith, ints)
times n (negsuc m) h = absurd (omega (arith, ints))

from_times : (n : ℕ) (z : ℤ) → 0 < n → pos 0 ≤ℤ (pos n *ℤ z) → pos 0 ≤ℤ z
from_times n (pos m) some h = omega (arith, ints)
from_times zero (negsuc m) some h = absurd (omega arith)
from_times (suc n) (negsuc m) some h = absurd (omega (arith, ints))

-- a point reaches forward along each of two ways, so also along one that lies between them
forward : (dx dy px py qx qy x y : ℤ) (d a b : ℕ) → 0 < d → pos d *ℤ x ≡ pos a *ℤ px +ℤ pos b *ℤ qx →
    pos d *ℤ y ≡ pos a *ℤ py +ℤ pos b *ℤ qy → pos 0 ≤ℤ (dx *ℤ px +ℤ dy *ℤ py) → pos 0 ≤ℤ (dx *ℤ qx +ℤ dy *ℤ qy) →
    pos 0 ≤ℤ (dx *ℤ x +ℤ dy *ℤ y)
forward dx dy px py qx qy x y d a b some along_x along_y on_p on_q =
    let whole = scaled (pos d) dx dy x y in
    let east = ap (λ z. dx *ℤ z) along_x ∙ distributes dx (pos a *ℤ px) (pos b *ℤ qx) in
    let north = ap (λ z. dy *ℤ z) along_y ∙ distributes dy (pos a *ℤ py) (pos b *ℤ qy) in
    let by_p = scaled (pos a) dx dy px py in
    let by_q = scaled (pos b) dx dy qx qy in
    let sum : pos d *ℤ (dx *ℤ x +ℤ dy *ℤ y) ≡
    pos a *ℤ (dx *ℤ px +ℤ dy *ℤ py) +ℤ pos b *ℤ (dx *ℤ qx +ℤ dy *ℤ qy) =
    rw (whole, by_p, by_q, east, north) (omega (arith, ints)) in
    let first = times a (dx *ℤ px +ℤ dy *ℤ py) on_p in
    let second = times b (dx *ℤ qx +ℤ dy *ℤ qy) on_q in
    from_times d (dx *ℤ x +ℤ dy *ℤ y) some (rw sum (omega (arith, ints)))

-- the way to a degree lies between two others
lies_between : ℤ → ℤ → ℤ → ℤ → ℕ → Bool
lies_between px py qx qy side =
    let x = cosine_at side in
    let y = sine_at side in
    let d = unsigned_abs (qx *ℤ py -ℤ qy *ℤ px) in
    let a = unsigned_abs (qx *ℤ y -ℤ qy *ℤ x) in
    let b = unsigned_abs (x *ℤ py -ℤ y *ℤ px) in
    nat_lt 0 d &&
    (int_eq (pos d *ℤ x) (pos a *ℤ px +ℤ pos b *ℤ qx) && int_eq (pos d *ℤ y) (pos a *ℤ py +ℤ pos b *ℤ qy))

is_forward : (dx dy px py qx qy : ℤ) (side : ℕ) → lies_between px py qx qy side ≡ true →
    pos 0 ≤ℤ (dx *ℤ px +ℤ dy *ℤ py) → pos 0 ≤ℤ (dx *ℤ qx +ℤ dy *ℤ qy) → pos 0 ≤ℤ projection_of dx dy side
unfolding lies_between projection_of
is_forward dx dy px py qx qy side h on_p on_q =
    let x = cosine_at side in
    let y = sine_at side in
    let d = unsigned_abs (qx *ℤ py -ℤ qy *ℤ px) in
    let a = unsigned_abs (qx *ℤ y -ℤ qy *ℤ x) in
    let b = unsigned_abs (x *ℤ py -ℤ y *ℤ px) in
    let parts = and_parts (nat_lt 0 d) _ h in
    let along = and_parts (int_eq (pos d *ℤ x) (pos a *ℤ px +ℤ pos b *ℤ qx)) _ parts.1 in
    let some : 0 < d = grind (arith, nat_tests, parts.0) in
    forward dx dy px py qx qy x y d a b some ((Decides-int_eq _ _).0 along.0) ((Decides-int_eq _ _).0 along.1) on_p on_q

-- how much further than the degree before it, and than the one after it, a degree leads
before_x : ℕ → ℤ
before_x b = cosine_at b -ℤ cosine_at ((b + 359) % 360)

before_y : ℕ → ℤ
before_y b = sine_at b -ℤ sine_at ((b + 359) % 360)

after_x : ℕ → ℤ
after_x b = cosine_at b -ℤ cosine_at ((b + 1) % 360)

after_y : ℕ → ℤ
after_y b = sine_at b -ℤ sine_at ((b + 1) % 360)

-- the ways to four degrees around a bearing lie between those two: 89 before it and 89 after it, and the ones that are
-- 128 from these
stands_out : ℤ → ℤ → ℤ → ℤ → ℕ → Bool
stands_out px py qx qy b =
    lies_between px py qx qy ((b + 271) % 360) && (lies_between px py qx qy ((b + 271 + 128) % 360) &&
    (lies_between px py qx qy ((b + 321) % 360) && lies_between px py qx qy ((b + 321 + 128) % 360)))

stands_at : ℕ → Bool
stands_at b = stands_out (before_x b) (before_y b) (after_x b) (after_y b) b

all_stand : passes_below stands_at 360 ≡ true
unfolding stands_at stands_out lies_between before_x before_y after_x after_y cosine_at sine_at sines
all_stand = refl

-- the way to a degree lies between those that are as far before and after it, at 1, 2, 4 .. 64 degrees
width : ℕ → ℕ
width zero = 1
width (suc e) = width e + width e

is_halfway : ℕ → ℕ → Bool
is_halfway h n =
    let far = (n + (h + h)) % 360 in
    lies_between (cosine_at n) (sine_at n) (cosine_at far) (sine_at far) ((n + h) % 360)

all_halfway : passes_below (λ e. passes_below (is_halfway (width e)) 360) 7 ≡ true
unfolding width is_halfway lies_between cosine_at sine_at sines
all_halfway = refl

leads_before : (dx dy : ℤ) (b : ℕ) → IsBearing dx dy b → pos 0 ≤ℤ (dx *ℤ before_x b +ℤ dy *ℤ before_y b)
unfolding before_x before_y projection_of
leads_before dx dy b is =
    let other = (b + 359) % 360 in
    let most = is.greatest other (omega arith) in
    rw (distributes_less dx (cosine_at b) (cosine_at other), distributes_less dy (sine_at b) (sine_at other))
    (omega (arith, ints, most))

leads_after : (dx dy : ℤ) (b : ℕ) → IsBearing dx dy b → pos 0 ≤ℤ (dx *ℤ after_x b +ℤ dy *ℤ after_y b)
unfolding after_x after_y projection_of
leads_after dx dy b is =
    let other = (b + 1) % 360 in
    let most = is.greatest other (omega arith) in
    rw (distributes_less dx (cosine_at b) (cosine_at other), distributes_less dy (sine_at b) (sine_at other))
    (omega (arith, ints, most))

-- at a number of degrees, perhaps past the round, a point reaches forward
abbrev ReachesAt : ℤ → ℤ → ℕ → Type 0
ReachesAt dx dy n = pos 0 ≤ℤ projection_of dx dy (n % 360)

-- so it does halfway between two such numbers
halfway : (dx dy : ℤ) (h n : ℕ) → is_halfway h (n % 360) ≡ true → ReachesAt dx dy n → ReachesAt dx dy (n + (h + h)) →
    ReachesAt dx dy (n + h)
unfolding is_halfway projection_of
halfway dx dy h n test first last =
    let a = n % 360 in
    let far : (a + (h + h)) % 360 ≡ (n + (h + h)) % 360 = omega arith in
    let here : (a + h) % 360 ≡ (n + h) % 360 = omega arith in
    rw (sym here)
    (is_forward dx dy (cosine_at a) (sine_at a) (cosine_at ((a + (h + h)) % 360)) (sine_at ((a + (h + h)) % 360))
    ((a + h) % 360) test first (rw far last))

halfway_at : (dx dy : ℤ) (e n : ℕ) → e < 7 → ReachesAt dx dy n → ReachesAt dx dy (n + (width e + width e)) →
    ReachesAt dx dy (n + width e)
halfway_at dx dy e n small first last =
    let row = passes_at (λ e. passes_below (is_halfway (width e)) 360) 7 all_halfway e small in
    halfway dx dy (width e) n (passes_at (is_halfway (width e)) 360 row (n % 360) (omega arith)) first last

-- and so everywhere between them
between : (dx dy : ℤ) (e n k : ℕ) → e ≤ 7 → k ≤ width e → ReachesAt dx dy n → ReachesAt dx dy (n + width e) →
    ReachesAt dx dy (n + k)
unfolding width
between dx dy zero n zero small within first last =
    let same : n ≡ n + 0 = omega arith in subst (ReachesAt dx dy) same first
between dx dy zero n (suc zero) small within first last = last
between dx dy zero n (suc (suc k)) small within first last = absurd (omega arith)
between dx dy (suc e) n k small within first last =
    let middle = halfway_at dx dy e n (omega arith) first last in
    elim (cases_lt k (width e)) [
      | inl l ↦ between dx dy e n k (omega arith) (omega arith) first middle
      | inr m ↦
          let on : n + (width e + width e) ≡ n + width e + width e = omega arith in
          let same : n + width e + (k - width e) ≡ n + k = omega arith in
          rw same at
          (between dx dy e (n + width e) (k - width e) (omega arith) (omega arith) middle (rw on at last))
    ]

around : (dx dy : ℤ) (b t : ℕ) → IsBearing dx dy b → t ≤ 178 → ReachesAt dx dy (b + 271 + t)
unfolding stands_at stands_out width
around dx dy b t is near =
    let px = before_x b in
    let py = before_y b in
    let qx = after_x b in
    let qy = after_y b in
    let at = λ (n : ℕ) (h : lies_between px py qx qy n ≡ true). is_forward dx dy px py qx qy n h
    (leads_before dx dy b is) (leads_after dx dy b is) in
    let test = passes_at stands_at 360 all_stand b is.on_the_round in
    let one = and_parts (lies_between px py qx qy ((b + 271) % 360)) _ test in
    let two = and_parts (lies_between px py qx qy ((b + 271 + 128) % 360)) _ one.1 in
    let three = and_parts (lies_between px py qx qy ((b + 321) % 360)) _ two.1 in
    elim (cases_lt t 128) [
      | inl l ↦ between dx dy 7 (b + 271) t (omega arith) (omega arith) (at _ one.0) (at _ two.0)
      | inr m ↦
          let same : b + 321 + (t - 50) ≡ b + 271 + t = omega arith in
          rw same at (between dx dy 7 (b + 321) (t - 50) (omega arith) (omega arith) (at _ three.0) (at _ three.1))
    ]

-- up to 89 degrees to either side of its bearing
to_sides : (dx dy : ℤ) (b s : ℕ) → IsBearing dx dy b → s < 90 →
    (pos 0 ≤ℤ projection_of dx dy ((b + s) % 360)) × (pos 0 ≤ℤ projection_of dx dy ((b + 360 - s) % 360))
to_sides dx dy b s is near =
    let after : (b + 271 + (89 + s)) % 360 ≡ (b + s) % 360 = omega arith in
    let before : (b + 271 + (89 - s)) % 360 ≡ (b + 360 - s) % 360 = omega arith in
    (rw after at (around dx dy b (89 + s) is (omega arith)), rw before at (around dx dy b (89 - s) is (omega arith)))

-- so one that reaches backwards at the left or at the right of an arc doesn't bear within it
outside : (a b : ℕ) → (a ≤ b → ⊥) → nat_le a b ≡ false
outside a b h = elim (leb_tells a b) [
  | inl t ↦ absurd (h t.1)
  | inr t ↦ t.0
]

pub beside_left : (dx dy : ℤ) (degree spread side : ℕ) → degree < 360 → spread ≤ 10 →
    side ≡ (degree + (89 - spread)) % 360 → projection_of dx dy side <ℤ pos 0 →
    nat_le (apart (bearing_of dx dy) degree) spread ≡ false
unfolding apart
beside_left dx dy degree spread side round small e backwards =
    let is = bearing_of-IsBearing dx dy in
    let b = bearing_of dx dy in
    let on = is.on_the_round in
    outside (apart b degree) spread (λ near.
    let s = (degree + 449 - spread - b) % 360 in
    let few : s < 90 = omega arith in
    let same : (b + s) % 360 ≡ side = omega arith in
    let here = rw same at (to_sides dx dy b s is few).0 in
    omega (arith, ints, here, backwards))

pub beside_right : (dx dy : ℤ) (degree spread side : ℕ) → degree < 360 → spread ≤ 10 →
    side ≡ (degree + (271 + spread)) % 360 → projection_of dx dy side <ℤ pos 0 →
    nat_le (apart (bearing_of dx dy) degree) spread ≡ false
unfolding apart
beside_right dx dy degree spread side round small e backwards =
    let is = bearing_of-IsBearing dx dy in
    let b = bearing_of dx dy in
    let on = is.on_the_round in
    outside (apart b degree) spread (λ near.
    let s = 360 - (degree + 631 + spread - b) % 360 in
    let few : s < 90 = omega arith in
    let same : (b + 360 - s) % 360 ≡ side = omega arith in
    let here = rw same at (to_sides dx dy b s is few).1 in
    omega (arith, ints, here, backwards))

-- one at the same place reaches nowhere
nowhere : (x y : ℤ) → pos 0 *ℤ x +ℤ pos 0 *ℤ y ≡ pos 0
nowhere x y = omega (arith, ints)

pub elsewhere : (dx dy : ℤ) (side : ℕ) → projection_of dx dy side <ℤ pos 0 → dx ≡ pos 0 → dy ≡ pos 0 → ⊥
unfolding projection_of
elsewhere dx dy side backwards p q =
    let at_origin = rw (p, q) at backwards in
    let none = nowhere (cosine_at side) (sine_at side) in
    absurd (omega (arith, ints, at_origin, none))

-- half a round further a point reaches back as far
is_opposite : ℕ → Bool
is_opposite n =
    int_eq (sine_at ((n + 180) % 360)) (neg_ℤ (sine_at n)) &&
    int_eq (cosine_at ((n + 180) % 360)) (neg_ℤ (cosine_at n))

all_opposite : passes_below is_opposite 360 ≡ true
unfolding is_opposite cosine_at sine_at sines
all_opposite = refl

negates : (a b : ℤ) → a *ℤ neg_ℤ b ≡ neg_ℤ (a *ℤ b)
negates a (pos zero) = omega (arith, ints)
negates a (pos (suc n)) = omega (arith, ints)
negates a (negsuc n) = omega (arith, ints)

opposite : (dx dy : ℤ) (n : ℕ) → n < 360 → projection_of dx dy ((n + 180) % 360) ≡ neg_ℤ (projection_of dx dy n)
unfolding is_opposite projection_of
opposite dx dy n round =
    let test = passes_at is_opposite 360 all_opposite n round in
    let parts = and_parts (int_eq (sine_at ((n + 180) % 360)) (neg_ℤ (sine_at n))) _ test in
    let sine : sine_at ((n + 180) % 360) ≡ neg_ℤ (sine_at n) = (Decides-int_eq _ _).0 parts.0 in
    let cosine : cosine_at ((n + 180) % 360) ≡ neg_ℤ (cosine_at n) = (Decides-int_eq _ _).0 parts.1 in
    rw (sine, cosine, negates dx (cosine_at n), negates dy (sine_at n)) (omega (arith, ints))

-- from a degree to the next, the reach of a point of the field changes little
is_small_step : ℕ → Bool
is_small_step n =
    nat_le (unsigned_abs (sine_at ((n + 1) % 360) -ℤ sine_at n)) 1746 &&
    nat_le (unsigned_abs (cosine_at ((n + 1) % 360) -ℤ cosine_at n)) 1746

all_small_steps : passes_below is_small_step 360 ≡ true
unfolding is_small_step cosine_at sine_at sines
all_small_steps = refl

part_small : (d s : ℤ) → unsigned_abs d ≤ 999 → unsigned_abs s ≤ 1746 → unsigned_abs (d *ℤ s) ≤ 1744254
part_small d s p q = rw (unsigned_abs-mul d s) (mul-le (unsigned_abs d) (unsigned_abs s) 999 1746 p q)

-- how far back a point can reach at a right angle to its bearing
abbrev IsNearlyForward : ℤ → Type 0
IsNearlyForward z = negsuc 3488507 ≤ℤ z

pub record Steps (dx dy : ℤ) (n : ℕ) : Type 0 where
  pub up : pos 0 ≤ℤ projection_of dx dy n → IsNearlyForward (projection_of dx dy ((n + 1) % 360))
  pub down : pos 0 ≤ℤ projection_of dx dy ((n + 1) % 360) → IsNearlyForward (projection_of dx dy n)

steps : (dx dy : ℤ) (n : ℕ) → n < 360 → unsigned_abs dx ≤ 999 → unsigned_abs dy ≤ 999 → Steps dx dy n
unfolding is_small_step projection_of
steps dx dy n round east north =
    let next = (n + 1) % 360 in
    let test = passes_at is_small_step 360 all_small_steps n round in
    let parts = and_parts (nat_le (unsigned_abs (sine_at next -ℤ sine_at n)) 1746) _ test in
    let sine : unsigned_abs (sine_at next -ℤ sine_at n) ≤ 1746 = grind (arith, nat_tests, parts.0) in
    let cosine : unsigned_abs (cosine_at next -ℤ cosine_at n) ≤ 1746 = grind (arith, nat_tests, parts.1) in
    let on_x = part_small dx (cosine_at next -ℤ cosine_at n) east cosine in
    let on_y = part_small dy (sine_at next -ℤ sine_at n) north sine in
    let x = distributes_less dx (cosine_at next) (cosine_at n) in
    let y = distributes_less dy (sine_at next) (sine_at n) in
    let small_x = rw x at on_x in
    let small_y = rw y at on_y in
    record { up = λ h. omega (arith, ints, h, small_x, small_y); down = λ h. omega (arith, ints, h, small_x, small_y) }

nearly_left : (dx dy : ℤ) (b s side : ℕ) → IsBearing dx dy b → unsigned_abs dx ≤ 999 → unsigned_abs dy ≤ 999 → s ≤ 90 →
    side ≡ (b + s) % 360 → IsNearlyForward (projection_of dx dy side)
nearly_left dx dy b s side is east north near e = by_size (cases_lt s 90)
  where
    round : b < 360
    round = is.on_the_round

    by_size : ((s < 90) ⊎ (90 ≤ s)) → IsNearlyForward (projection_of dx dy side)
    by_size (inl less) =
        let here = rw (sym e) at (to_sides dx dy b s is less).0 in
        omega (arith, ints, here)
    by_size (inr right) =
        let n = (b + 89) % 360 in
        let same : (n + 1) % 360 ≡ side = omega (arith, e, near, right, round) in
        let reaches = (to_sides dx dy b 89 is (omega arith)).0 in
        rw (sym same) ((steps dx dy n (omega arith) east north).up reaches)

nearly_right : (dx dy : ℤ) (b s side : ℕ) → IsBearing dx dy b → unsigned_abs dx ≤ 999 → unsigned_abs dy ≤ 999 → s ≤ 90 →
    side ≡ (b + 360 - s) % 360 → IsNearlyForward (projection_of dx dy side)
nearly_right dx dy b s side is east north near e = by_size (cases_lt s 90)
  where
    round : b < 360
    round = is.on_the_round

    by_size : ((s < 90) ⊎ (90 ≤ s)) → IsNearlyForward (projection_of dx dy side)
    by_size (inl less) =
        let here = rw (sym e) at (to_sides dx dy b s is less).1 in
        omega (arith, ints, here)
    by_size (inr right) =
        let there : (b + 360 - 89) % 360 ≡ (side + 1) % 360 = omega (arith, e, near, right, round) in
        let reaches = rw there at (to_sides dx dy b 89 is (omega arith)).1 in
        (steps dx dy side (omega (arith, e)) east north).down reaches

-- so one that lies deep in an arc, from both sides, bears within it
not_deep : (z o : ℤ) → z ≡ neg_ℤ o → IsNearlyForward o → pos 3500000 ≤ℤ z → ⊥
not_deep z o e near deep = omega (arith, ints)

back : (dx dy : ℤ) (n opp : ℕ) → n < 360 → opp ≡ (n + 180) % 360 →
    projection_of dx dy n ≡ neg_ℤ (projection_of dx dy opp)
back dx dy n opp round e =
    let there = opposite dx dy n round in
    rw e (omega (arith, ints, there))

pub deep : (dx dy : ℤ) (degree spread left right : ℕ) → unsigned_abs dx ≤ 999 → unsigned_abs dy ≤ 999 → degree < 360 →
    spread ≤ 10 → left ≡ (degree + (89 - spread)) % 360 → right ≡ (degree + (271 + spread)) % 360 →
    pos 3500000 ≤ℤ projection_of dx dy left → pos 3500000 ≤ℤ projection_of dx dy right →
    nat_le (apart (bearing_of dx dy) degree) spread ≡ true
unfolding apart
deep dx dy degree spread left right east north round small l r deep_left deep_right =
    elim (leb_tells (apart b degree) spread) [
      | inl t ↦ t.0
      | inr t ↦ absurd (by_half t.1 (cases_lt 180 from_degree))
    ]
  where
    b : ℕ
    b = bearing_of dx dy

    is : IsBearing dx dy b
    is = bearing_of-IsBearing dx dy

    on : b < 360
    on = is.on_the_round

    from_degree : ℕ
    from_degree = (b + 360 - degree) % 360

    off_right : (u : ℕ) → 90 ≤ u → u ≤ 270 → right ≡ (b + 360 - u) % 360 → ((u < 180) ⊎ (180 ≤ u)) → ⊥
    off_right u low high e (inl less) =
        let opp = (right + 180) % 360 in
        let there : opp ≡ (b + (180 - u)) % 360 = omega (arith, e, low, high, less, on) in
        let near = nearly_left dx dy b (180 - u) opp is east north (omega (arith, low)) there in
        not_deep _ _ (back dx dy right opp (omega (arith, e)) refl) near deep_right
    off_right u low high e (inr more) =
        let opp = (right + 180) % 360 in
        let there : opp ≡ (b + 360 - (u - 180)) % 360 = omega (arith, e, low, high, more, on) in
        let near = nearly_right dx dy b (u - 180) opp is east north (omega (arith, high)) there in
        not_deep _ _ (back dx dy right opp (omega (arith, e)) refl) near deep_right

    off_left : (u : ℕ) → 90 ≤ u → u ≤ 270 → left ≡ (b + u) % 360 → ((u < 180) ⊎ (180 ≤ u)) → ⊥
    off_left u low high e (inl less) =
        let opp = (left + 180) % 360 in
        let there : opp ≡ (b + 360 - (180 - u)) % 360 = omega (arith, e, low, high, less, on) in
        let near = nearly_right dx dy b (180 - u) opp is east north (omega (arith, low)) there in
        not_deep _ _ (back dx dy left opp (omega (arith, e)) refl) near deep_left
    off_left u low high e (inr more) =
        let opp = (left + 180) % 360 in
        let there : opp ≡ (b + (u - 180)) % 360 = omega (arith, e, low, high, more, on) in
        let near = nearly_left dx dy b (u - 180) opp is east north (omega (arith, high)) there in
        not_deep _ _ (back dx dy left opp (omega (arith, e)) refl) near deep_left

    by_half : spread < apart b degree → ((180 < from_degree) ⊎ (from_degree ≤ 180)) → ⊥
    by_half h (inr before) =
        let u = from_degree + 89 - spread in
        off_right u (omega (arith, h, on, round, small)) (omega (arith, before, small))
        (omega (arith, r, h, before, on, round, small)) (cases_lt u 180)
    by_half h (inl after) =
        let u = 449 - spread - from_degree in
        off_left u (omega (arith, h, on, round, small)) (omega (arith, after))
        (omega (arith, l, h, after, on, round, small)) (cases_lt u 180)
