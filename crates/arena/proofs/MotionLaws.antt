-- The motion that is kept of a leg, after each step of an update.
use Rattle.std.proofs.Common.{◌≡◌, ℕ, ◌+◌, ◌≤◌, ◌<◌, ℤ, pos, ◌+ℤ◌, ◌*ℤ◌, Bool, true, false, ◌||◌, ◌==◌, add-zero, refl, sym, ap, ◌∙◌, arith}
use Rattle.std.proofs.lemmas.Int.{ints}
use Rattle.std.proofs.lemmas.Bool.Decides.{nat_tests}
use Rattle.std.proofs.lemmas.Bool.{and_parts, eqb-true, eq-eqb, ne_eqb, le-leb, lt-leb, or_parts}
use Rattle.arena.specs.Answer.{with_wanted}
use Rattle.arith.specs.Circle.{sine_at, cosine_at}
use Rattle.arena.specs.Rules.{last_place}
use Rattle.arena.specs.Leg.{Leg, clamped, along, way_east, way_north, end_x, end_y, place_x, place_y, approached, leg_anew, steered, sped, travelled, hits_wall, clamped_at_walls, tried}
use Rattle.arena.specs.Sums.{sum_from, sum_east, sum_north, step_east, step_north, place_of, is_beyond, clamped_place_of}
use Rattle.arena.specs.Start.{robot_at_rest}
use Rattle.arena.specs.Arena.{Motion, motion_of, is_steady}
use Rattle.arena.specs.Still.{IsAtRest, OnlyTurns}
use Rattle.arena.proofs.Sums.{Leads, leads, beyond_is, near_is, place_is, field_is_free, free_is_field, grown_back, grown_bits}
use Rattle.arena.specs.Motions.{IsMotion}

-- a way of nothing leads nowhere
along-none : (o : ℕ) → along o (pos 0) ≡ pos o
unfolding along
along-none o = omega (arith, ints)

way-none : (z : ℤ) → pos 0 *ℤ z ≡ pos 0
way-none z = omega (arith, ints)

-- a motion whose leg starts at a place
abbrev pub begun : Motion → ℕ → ℕ → Motion
begun t x y = record t {
  east = sum_from x (cosine_at t.heading) (pos 0);
  north = sum_from y (sine_at t.heading) (pos 0);
  x = x;
  y = y;
  step_east = pos t.speed *ℤ cosine_at t.heading;
  step_north = pos t.speed *ℤ sine_at t.heading;
  steady = is_steady t.heading t.wanted_heading t.speed t.wanted_speed;
}

-- what is kept of a leg that starts at a place
from_place : (x y heading speed wanted_heading wanted_speed : ℕ) →
    motion_of
    (record {
      origin_x = x;
      origin_y = y;
      heading = heading;
      distance = 0;
      speed = speed;
      wanted_heading = wanted_heading;
      wanted_speed = wanted_speed;
    })
    ≡
    record {
      east = sum_from x (cosine_at heading) (pos 0);
      north = sum_from y (sine_at heading) (pos 0);
      x = x;
      y = y;
      step_east = pos speed *ℤ cosine_at heading;
      step_north = pos speed *ℤ sine_at heading;
      heading = heading;
      speed = speed;
      wanted_heading = wanted_heading;
      wanted_speed = wanted_speed;
      steady = is_steady heading wanted_heading speed wanted_speed;
    }
unfolding motion_of place_x place_y end_x end_y way_east way_north sum_east sum_north step_east step_north
from_place x y heading speed wanted_heading wanted_speed = simp (way-none, along-none)

pub standing_is : (x y : ℕ) →
    record {
      east = sum_from x (cosine_at 0) (pos 0);
      north = sum_from y (sine_at 0) (pos 0);
      x = x;
      y = y;
      step_east = pos 0 *ℤ cosine_at 0;
      step_north = pos 0 *ℤ sine_at 0;
      heading = 0;
      speed = 0;
      wanted_heading = 0;
      wanted_speed = 0;
      steady = is_steady 0 0 0 0;
    }
    ≡ motion_of (robot_at_rest x y).leg
unfolding robot_at_rest
standing_is x y = sym (from_place x y 0 0 0 0)

pub stopped_is : (t : Motion) (leg : Leg) (x y : ℕ) → t ≡ motion_of leg →
    begun (record t { speed = 0; wanted_speed = 0 }) x y ≡
    motion_of (record leg { origin_x = x; origin_y = y; distance = 0; speed = 0; wanted_speed = 0 })
unfolding motion_of
stopped_is t leg x y e =
    ap (λ (t : Motion). begun (record t { speed = 0; wanted_speed = 0 }) x y) e ∙ sym (from_place _ _ _ _ _ _)

pub turned_is : (t : Motion) (leg : Leg) (x y : ℕ) → t ≡ motion_of leg → x ≡ place_x leg → y ≡ place_y leg →
    begun (record t { heading = t.wanted_heading }) x y ≡
    motion_of (record (leg_anew leg) { heading = leg.wanted_heading })
unfolding motion_of leg_anew
turned_is t leg x y e p q =
    rw (p, q)
    (ap (λ (t : Motion). begun (record t { heading = t.wanted_heading }) (place_x leg) (place_y leg)) e ∙
    sym (from_place _ _ _ _ _ _))

-- the steps on what is kept
pub wanting_is : (t : Motion) (leg : Leg) (degree speed : ℕ) → t ≡ motion_of leg →
    record t { wanted_heading = degree; wanted_speed = speed; steady = is_steady t.heading degree t.speed speed } ≡
    motion_of (with_wanted leg degree speed)
unfolding motion_of with_wanted place_x place_y end_x end_y way_east way_north sum_east sum_north step_east step_north
wanting_is t leg degree speed e =
    ap
    (λ (t : Motion). record t {
      wanted_heading = degree;
      wanted_speed = speed;
      steady = is_steady t.heading degree t.speed speed;
    }) e

pub sped_is : (t : Motion) (leg : Leg) → t ≡ motion_of leg →
    record t {
      speed = approached t.speed t.wanted_speed;
      step_east = pos (approached t.speed t.wanted_speed) *ℤ cosine_at t.heading;
      step_north = pos (approached t.speed t.wanted_speed) *ℤ sine_at t.heading;
      steady = is_steady t.heading t.wanted_heading (approached t.speed t.wanted_speed) t.wanted_speed;
    } ≡ motion_of (sped leg)
unfolding motion_of sped place_x place_y end_x end_y way_east way_north sum_east sum_north step_east step_north
sped_is t leg e =
    ap
    (λ (t : Motion). record t {
      speed = approached t.speed t.wanted_speed;
      step_east = pos (approached t.speed t.wanted_speed) *ℤ cosine_at t.heading;
      step_north = pos (approached t.speed t.wanted_speed) *ℤ sine_at t.heading;
      steady = is_steady t.heading t.wanted_heading (approached t.speed t.wanted_speed) t.wanted_speed;
    }) e

-- a robot that wants to go where it heads keeps its leg; at a low speed it turns, else it brakes
pub keeps_heading : (t : Motion) (leg : Leg) → t ≡ motion_of leg → t.wanted_heading ≡ t.heading →
    t ≡ motion_of (steered leg)
unfolding motion_of steered
keeps_heading t leg e h =
    let same : leg.wanted_heading ≡ leg.heading = cc in
    let test = eq-eqb leg.wanted_heading leg.heading same in
    rw test e

-- a robot that turns
steers_low : (leg : Leg) → (leg.wanted_heading ≡ leg.heading → ⊥) → leg.speed ≤ 50 →
    steered leg ≡ record (leg_anew leg) { heading = leg.wanted_heading }
unfolding steered
steers_low leg h slow = rw (ne_eqb leg.wanted_heading leg.heading h, le-leb leg.speed 50 slow) refl

pub turns_is : (t b : Motion) (leg : Leg) → t ≡ motion_of leg →
    b ≡ motion_of (record (leg_anew leg) { heading = leg.wanted_heading }) → (t.wanted_heading ≡ t.heading → ⊥) →
    t.speed ≤ 50 → b ≡ motion_of (steered leg)
unfolding motion_of
turns_is t b leg e f h slow =
    let differs : leg.wanted_heading ≡ leg.heading → ⊥ = λ s. h cc in
    let low : leg.speed ≤ 50 = omega (arith, ap (λ (t : Motion). t.speed) e) in
    f ∙ ap motion_of (sym (steers_low leg differs low))

pub brakes_is : (t : Motion) (leg : Leg) → t ≡ motion_of leg → (t.wanted_heading ≡ t.heading → ⊥) → 50 < t.speed →
    record t { wanted_speed = 0; steady = is_steady t.heading t.wanted_heading t.speed 0 } ≡ motion_of (steered leg)
unfolding motion_of steered place_x place_y end_x end_y way_east way_north sum_east sum_north step_east step_north
brakes_is t leg e h fast =
    let differs : leg.wanted_heading ≡ leg.heading → ⊥ = λ s. h cc in
    let quick : 50 < leg.speed = omega (arith, ap (λ (t : Motion). t.speed) e) in
    rw (ne_eqb leg.wanted_heading leg.heading differs, lt-leb leg.speed 50 quick)
    (ap
    (λ (t : Motion). record t { wanted_speed = 0; steady = is_steady t.heading t.wanted_heading t.speed 0 }) e)

-- the way after an update
way_more : (d s : ℕ) (z : ℤ) → pos (d + s) *ℤ z ≡ pos d *ℤ z +ℤ pos s *ℤ z
way_more d s z = omega (arith, ints)

way_grown_east : (leg : Leg) → way_east (travelled leg) ≡ way_east leg +ℤ pos leg.speed *ℤ cosine_at leg.heading
unfolding travelled way_east
way_grown_east leg = way_more leg.distance leg.speed (cosine_at leg.heading)

way_grown_north : (leg : Leg) → way_north (travelled leg) ≡ way_north leg +ℤ pos leg.speed *ℤ sine_at leg.heading
unfolding travelled way_north
way_grown_north leg = way_more leg.distance leg.speed (sine_at leg.heading)

-- the sums after an update
sum_more : (o : ℕ) (part way step to : ℤ) → to ≡ way +ℤ step → sum_from o part to ≡ sum_from o part way +ℤ step
unfolding sum_from
sum_more o part way step to e = omega (arith, ints, e)

grown_east : (leg : Leg) → sum_east (travelled leg) ≡ sum_east leg +ℤ step_east leg
unfolding sum_east step_east sum_from travelled
grown_east leg = sum_more leg.origin_x (cosine_at leg.heading) _ _ _ (way_grown_east leg)

grown_north : (leg : Leg) → sum_north (travelled leg) ≡ sum_north leg +ℤ step_north leg
unfolding sum_north step_north sum_from travelled
grown_north leg = sum_more leg.origin_y (sine_at leg.heading) _ _ _ (way_grown_north leg)

-- where the sums lead
leads_east : (leg : Leg) → Leads (sum_east leg) (end_x leg)
unfolding sum_east end_x way_east
leads_east leg = leads leg.origin_x leg.distance (cosine_at leg.heading)

leads_north : (leg : Leg) → Leads (sum_north leg) (end_y leg)
unfolding sum_north end_y way_north
leads_north leg = leads leg.origin_y leg.distance (sine_at leg.heading)

out_is : (leg : Leg) → (is_beyond (sum_east leg) || is_beyond (sum_north leg)) ≡ hits_wall leg
unfolding hits_wall
out_is leg =
    rw (beyond_is (sum_east leg) (end_x leg) (leads_east leg), beyond_is (sum_north leg) (end_y leg) (leads_north leg))
    refl

-- what the code works out when a robot drives on: the sums, and whether they lead beyond a wall
pub record Forward (t : Motion) (east north : ℤ) (out : Bool) : Type 0 where
  pub goes_east : east ≡ t.east +ℤ t.step_east
  pub goes_north : north ≡ t.north +ℤ t.step_north
  pub is_out : out ≡ (is_beyond east || is_beyond north)

-- the same from what the calls ensure
pub record IsDriven (t : Motion) (out : Bool) : Type 0 where
  pub east : grown_bits t.east t.step_east ≡ t.east +ℤ t.step_east
  pub north : grown_bits t.north t.step_north ≡ t.north +ℤ t.step_north
  pub forward : Forward t (t.east +ℤ t.step_east) (t.north +ℤ t.step_north) out

pub driven : (t : Motion) (out : Bool) → IsMotion t →
    out ≡ (is_beyond (grown_bits t.east t.step_east) || is_beyond (grown_bits t.north t.step_north)) → IsDriven t out
driven t out i e =
    let east = grown_back t.east t.step_east i.east i.step_east in
    let north = grown_back t.north t.step_north i.north i.step_north in
    record {
      east = east;
      north = north;
      forward = record { goes_east = refl; goes_north = refl; is_out = e ∙ rw (east, north) refl };
    }

-- all of it is what the grown leg says
record Grown (leg : Leg) (east north : ℤ) (out : Bool) : Type 0 where
  goes_east : east ≡ sum_east (travelled leg)
  goes_north : north ≡ sum_north (travelled leg)
  is_out : out ≡ hits_wall (travelled leg)

grown_is : (t : Motion) (leg : Leg) (east north : ℤ) (out : Bool) → t ≡ motion_of leg → Forward t east north out →
    Grown leg east north out
unfolding motion_of
grown_is t leg east north out e f =
    let to_x : east ≡ sum_east (travelled leg) =
    f.goes_east ∙ ap (λ (t : Motion). t.east +ℤ t.step_east) e ∙ sym (grown_east leg) in
    let to_y : north ≡ sum_north (travelled leg) =
    f.goes_north ∙ ap (λ (t : Motion). t.north +ℤ t.step_north) e ∙ sym (grown_north leg) in
    record {
      goes_east = to_x;
      goes_north = to_y;
      is_out = f.is_out ∙ ap (λ (z : ℤ). is_beyond z || is_beyond north) to_x ∙
          ap (λ (z : ℤ). is_beyond (sum_east (travelled leg)) || is_beyond z) to_y ∙ out_is (travelled leg);
    }

pub walled_is : (t : Motion) (leg : Leg) (east north : ℤ) (out : Bool) → t ≡ motion_of leg → Forward t east north out →
    out ≡ hits_wall (travelled leg)
walled_is t leg east north out e f = (grown_is t leg east north out e f).is_out

-- a robot that a wall stops
pub stops_is : (t stopped : Motion) (leg : Leg) (east north : ℤ) (x y : ℕ) (out : Bool) → t ≡ motion_of leg →
    Forward t east north out → out ≡ true → x ≡ clamped_place_of east → y ≡ clamped_place_of north →
    stopped ≡ motion_of (record leg { origin_x = x; origin_y = y; distance = 0; speed = 0; wanted_speed = 0 }) →
    stopped ≡ motion_of (clamped_at_walls (travelled leg))
unfolding clamped_at_walls travelled
stops_is t stopped leg east north x y out e f h p q s =
    let g = grown_is t leg east north out e f in
    let to_x : x ≡ clamped last_place (end_x (travelled leg)) =
    p ∙ ap clamped_place_of g.goes_east ∙
    near_is (sum_east (travelled leg)) (end_x (travelled leg)) (leads_east (travelled leg)) in
    let to_y : y ≡ clamped last_place (end_y (travelled leg)) =
    q ∙ ap clamped_place_of g.goes_north ∙
    near_is (sum_north (travelled leg)) (end_y (travelled leg)) (leads_north (travelled leg)) in
    rw (sym g.is_out ∙ h, sym to_x, sym to_y) s

-- one that none stops
pub drives_is : (t : Motion) (leg : Leg) (east north : ℤ) (out : Bool) → t ≡ motion_of leg → Forward t east north out →
    out ≡ false →
    record t { east = east; north = north; x = place_of east; y = place_of north } ≡
    motion_of (clamped_at_walls (travelled leg))
unfolding clamped_at_walls motion_of travelled place_x place_y step_east step_north
drives_is t leg east north out e f h =
    let g = grown_is t leg east north out e f in
    let free = or_parts (is_beyond east) (is_beyond north) (sym f.is_out ∙ h) in
    let to_x : place_of east ≡ place_x (travelled leg) =
    ap place_of g.goes_east ∙
    place_is (sum_east (travelled leg)) (end_x (travelled leg)) (leads_east (travelled leg))
    (free_is_field _ (ap is_beyond (sym g.goes_east) ∙ free.0)) in
    let to_y : place_of north ≡ place_y (travelled leg) =
    ap place_of g.goes_north ∙
    place_is (sum_north (travelled leg)) (end_y (travelled leg)) (leads_north (travelled leg))
    (free_is_field _ (ap is_beyond (sym g.goes_north) ∙ free.1)) in
    rw (sym g.is_out ∙ h, to_x, to_y, g.goes_east, g.goes_north)
    (ap
    (λ (t : Motion). record t {
      east = sum_east (travelled leg);
      north = sum_north (travelled leg);
      x = place_x (travelled leg);
      y = place_y (travelled leg);
    }) e)

-- a robot at rest stays
rests : (leg : Leg) → leg.speed ≡ 0 → travelled leg ≡ leg
unfolding travelled
rests leg e = rw (e, add-zero) refl

-- a robot at rest that wants nothing else tries to drive the leg that it has
keeps_way : (leg : Leg) → leg.wanted_heading ≡ leg.heading → steered leg ≡ leg
unfolding steered
keeps_way leg e = rw (eq-eqb leg.wanted_heading leg.heading e) refl

keeps_speed : (leg : Leg) → leg.speed ≡ 0 → leg.wanted_speed ≡ 0 → sped leg ≡ leg
unfolding sped approached
keeps_speed leg s w =
    let none : approached leg.speed leg.wanted_speed ≡ leg.speed = rw (s, w) refl in
    ap (λ n. record leg { speed = n }) none

pub record StandsFree (leg : Leg) : Type 0 where
  pub stands : tried leg ≡ leg
  pub free : hits_wall leg ≡ false

at_rest : (leg : Leg) → leg.speed ≡ 0 → leg.wanted_speed ≡ 0 → leg.wanted_heading ≡ leg.heading →
    hits_wall leg ≡ false → StandsFree leg
unfolding tried
at_rest leg s w h free = record {
  stands = ap (λ l. travelled (sped l)) (keeps_way leg h) ∙ ap travelled (keeps_speed leg s w) ∙ rests leg s;
  free = free;
}

pub rests_is : (leg : Leg) → IsAtRest (motion_of leg) → StandsFree leg
unfolding motion_of
rests_is leg r =
    let free =
    sym (out_is leg) ∙ rw (field_is_free (sum_east leg) r.inside.0, field_is_free (sum_north leg) r.inside.1) refl in
    at_rest leg r.stands r.wants_none r.heads free

-- a robot that wants neither another heading nor another speed drives on as it does
approached-same : (n : ℕ) → approached n n ≡ n
unfolding approached
approached-same n = grind (arith, nat_tests)

keeps_pace : (leg : Leg) → leg.speed ≡ leg.wanted_speed → sped leg ≡ leg
unfolding sped
keeps_pace leg e =
    let same : approached leg.speed leg.wanted_speed ≡ leg.speed =
    ap (approached leg.speed) (sym e) ∙ approached-same leg.speed in
    ap (λ n. record leg { speed = n }) same

-- one that only turns has turned then
pub only_turns_is : (t b : Motion) (leg : Leg) → t ≡ motion_of leg → OnlyTurns t →
    b ≡ motion_of (record (leg_anew leg) { heading = leg.wanted_heading }) → b ≡ motion_of (sped (steered leg))
unfolding motion_of leg_anew
only_turns_is t b leg e only f =
    let speed : t.speed ≡ leg.speed = ap (λ (t : Motion). t.speed) e in
    let wanted : t.wanted_speed ≡ leg.wanted_speed = ap (λ (t : Motion). t.wanted_speed) e in
    let low : leg.speed ≤ 50 = omega (arith, speed, only.slow) in
    let same : leg.speed ≡ leg.wanted_speed = sym speed ∙ only.keeps ∙ wanted in
    let differs : leg.wanted_heading ≡ leg.heading → ⊥ = λ s.
    only.turns
    (ap (λ (t : Motion). t.wanted_heading) e ∙ s ∙ sym (ap (λ (t : Motion). t.heading) e)) in
    f ∙ ap motion_of (sym (ap sped (steers_low leg differs low) ∙ keeps_pace _ same))

pub keeps_course : (t : Motion) (leg : Leg) → t ≡ motion_of leg → t.steady ≡ true → t ≡ motion_of (sped (steered leg))
unfolding motion_of is_steady
keeps_course t leg e steady =
    let both =
    and_parts (leg.wanted_heading == leg.heading) (leg.speed == leg.wanted_speed)
    (sym (ap (λ (t : Motion). t.steady) e) ∙ steady) in
    let same_heading : leg.wanted_heading ≡ leg.heading = eqb-true leg.wanted_heading leg.heading both.0 in
    let same_speed : leg.speed ≡ leg.wanted_speed = eqb-true leg.speed leg.wanted_speed both.1 in
    e ∙ ap motion_of (sym (ap sped (keeps_way leg same_heading) ∙ keeps_pace leg same_speed))
