-- Shots: where and when they burst, which are in the air, and how much a burst hurts.
use Rattle.std.specs.Prelude.{ℕ, ◌+◌, ◌*◌, max, ◌&&◌, ◌==◌, nat_lt, nat_le, if◌then◌else◌, List, filter, map, pos, ◌*ℤ◌}
use Rattle.std.specs.Int.{div_ceil}
use Rattle.arith.specs.Circle.{sine_at, cosine_at}
use Rattle.arena.specs.Rules.{last_place, missile_speed, inner_ring, inner_ring_damage, middle_ring, middle_ring_damage, last_ring, last_ring_damage}
use Rattle.arena.specs.Leg.{Leg, clamped, along, place_x, place_y}
use Rattle.arena.specs.Field.{Shot}
use Rattle.arena.specs.Collisions.{square}

-- the place of a burst: at this range in metres, but inside the field
unfoldable pub aimed_x : ℕ → ℕ → ℕ → ℕ
aimed_x from degree range = clamped last_place (along from (pos (10 * range) *ℤ cosine_at degree))

unfoldable pub aimed_y : ℕ → ℕ → ℕ → ℕ
aimed_y from degree range = clamped last_place (along from (pos (10 * range) *ℤ sine_at degree))

-- how many updates a missile flies to this range in metres
unfoldable pub flight : ℕ → ℕ
flight range = max 1 (div_ceil range missile_speed)

-- fired after n updates from this leg
unfoldable pub shot : ℕ → ℕ → Leg → ℕ → ℕ → Shot
shot updates owner leg degree range = record {
  owner = owner;
  burst = updates + flight range;
  x = aimed_x (place_x leg) degree range;
  y = aimed_y (place_y leg) degree range;
}

unfoldable pub in_air : ℕ → ℕ → List Shot → List Shot
in_air updates owner shots = filter (λ s. (s.owner == owner) && nat_lt updates s.burst) shots

unfoldable pub due_at : ℕ → List Shot → List Shot
due_at update shots = filter (λ s. s.burst == update) shots

-- the damage at this squared distance from a burst: that of the smallest ring that reaches there
unfoldable pub ring : ℕ → ℕ
ring square =
    if nat_le square (inner_ring * inner_ring) then inner_ring_damage
    else if nat_le square (middle_ring * middle_ring) then middle_ring_damage
    else if nat_le square (last_ring * last_ring) then last_ring_damage
    else 0

-- the damage that each burst of an update does at a place
unfoldable pub bursts : ℕ → List Shot → ℕ → ℕ → List ℕ
bursts update shots x y = map (λ s. ring (square x y s.x s.y)) (due_at update shots)
