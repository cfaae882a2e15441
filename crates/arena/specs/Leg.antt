-- A leg is a straight way: a robot drives from its origin with one heading. What an update makes of it: heading,
-- speed, distance, walls.
use Rattle.std.specs.Prelude.{ℕ, ◌+◌, ◌-◌, min, max, Bool, ◌||◌, ◌==◌, nat_lt, nat_le, if◌then◌else◌, ℤ, pos, negsuc, ◌+ℤ◌, ◌*ℤ◌, int_lt, int_div, unsigned_abs}
use Rattle.arith.specs.Circle.{sine_at, cosine_at}
use Rattle.arena.specs.Rules.{last_place, turning_speed, acceleration}

-- in tenths of a metre and degrees; a speed of 1 percent is a tenth an update
pub record Leg : Type 0 where
  pub origin_x : ℕ
  pub origin_y : ℕ
  pub heading : ℕ
  pub distance : ℕ
  pub speed : ℕ
  pub wanted_heading : ℕ
  pub wanted_speed : ℕ

abbrev pub leg_at_rest : ℕ → ℕ → Leg
leg_at_rest x y = record {
  origin_x = x;
  origin_y = y;
  heading = 0;
  distance = 0;
  speed = 0;
  wanted_heading = 0;
  wanted_speed = 0;
}

-- begun anew at a place, at rest, with the same heading
abbrev pub stopped_at : ℕ → ℕ → Leg → Leg
stopped_at x y leg = record leg { origin_x = x; origin_y = y; distance = 0; speed = 0; wanted_speed = 0 }

-- a number, or the end of 0..most that it lies beyond
unfoldable pub clamped : ℕ → ℤ → ℕ
clamped most (pos n) = min n most
clamped most (negsuc n) = 0

-- where a way, in hundred-thousandths of a tenth, leads from an origin, rounded towards it
unfoldable pub along : ℕ → ℤ → ℤ
along origin way = pos origin +ℤ int_div way (pos 100000)

unfoldable pub way_east : Leg → ℤ
way_east leg = pos leg.distance *ℤ cosine_at leg.heading

unfoldable pub way_north : Leg → ℤ
way_north leg = pos leg.distance *ℤ sine_at leg.heading

-- the leg's end, perhaps beyond a wall
unfoldable pub end_x : Leg → ℤ
end_x leg = along leg.origin_x (way_east leg)

unfoldable pub end_y : Leg → ℤ
end_y leg = along leg.origin_y (way_north leg)

-- the robot's place: the end of a leg that hit no wall, so not below 0
unfoldable pub place_x : Leg → ℕ
place_x leg = unsigned_abs (end_x leg)

unfoldable pub place_y : Leg → ℕ
place_y leg = unsigned_abs (end_y leg)

unfoldable pub leg_anew : Leg → Leg
leg_anew leg = record leg { origin_x = place_x leg; origin_y = place_y leg; distance = 0 }

-- a robot turns at the turning speed or less; when it is faster, it begins to brake
unfoldable pub steered : Leg → Leg
steered leg =
    if leg.wanted_heading == leg.heading then leg
    else if nat_le leg.speed turning_speed then record (leg_anew leg) { heading = leg.wanted_heading }
    else record leg { wanted_speed = 0 }

-- the speed goes by the acceleration, or less, towards the wanted speed
unfoldable pub approached : ℕ → ℕ → ℕ
approached speed wanted =
    if nat_lt speed wanted then min (speed + acceleration) wanted else max (speed - acceleration) wanted

unfoldable pub sped : Leg → Leg
sped leg = record leg { speed = approached leg.speed leg.wanted_speed }

unfoldable pub travelled : Leg → Leg
travelled leg = record leg { distance = leg.distance + leg.speed }

unfoldable pub is_outside : ℤ → Bool
is_outside z = int_lt z (pos 0) || int_lt (pos last_place) z

unfoldable pub hits_wall : Leg → Bool
hits_wall leg = is_outside (end_x leg) || is_outside (end_y leg)

-- each axis is clamped
unfoldable pub clamped_at_walls : Leg → Leg
clamped_at_walls leg =
    if hits_wall leg then stopped_at (clamped last_place (end_x leg)) (clamped last_place (end_y leg)) leg else leg

-- the leg that a robot tries to drive, and what walls leave of it
unfoldable pub tried : Leg → Leg
tried leg = travelled (sped (steered leg))

unfoldable pub stopped_by_walls : Leg → Leg
stopped_by_walls leg = clamped_at_walls (tried leg)
