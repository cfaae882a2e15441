-- A shot, and the last shots of a match.
use Rattle.std.specs.Prelude.{ℕ, ◌≡◌, ◌+◌, ◌==◌, ◌&&◌, ℤ, Bool, false, true, nat_lt, if◌then◌else◌}
use Rattle.arith.specs.Degree.{degree_of}
use Rattle.arena.specs.Leg.{clamped}
use Rattle.arena.specs.Shots.{aimed_x, aimed_y, flight, ring}
use Rattle.arena.specs.Collisions.{square}
use Rattle.watching.specs.declared.places.Place.{Place}
use Rattle.watching.specs.declared.shots.Shot.{Shot}

-- the shot of a robot after n updates, from a place in a direction: it bursts at the range asked for, at most 700
-- metres away, and has hurt nobody yet
pub record IsShotOf (robot updates : ℕ) (from : Place) (degree range : ℤ) (shot : Shot) : Type 0 where
  pub owner : shot.robot ≡ robot
  pub fired : shot.fired ≡ updates
  pub begin : shot.from ≡ from
  pub burst : shot.burst ≡ updates + flight (clamped 700 range)
  pub x : shot.to.x ≡ aimed_x from.x (degree_of degree) (clamped 700 range)
  pub y : shot.to.y ≡ aimed_y from.y (degree_of degree) (clamped 700 range)
  pub no_hit : shot.hit ≡ false

-- the burst of a shot in this update hurts a robot that is at this place then
abbrev pub hurts_in : (update : ℕ) → Place → Shot → Bool
hurts_in update place shot = (shot.burst == update) && nat_lt 0 (ring (square place.x place.y shot.to.x shot.to.y))

-- a shot is marked once its burst has hurt a robot
abbrev pub marked : (update : ℕ) → Place → Shot → Shot
marked update place shot = if hurts_in update place shot then record shot { hit = true } else shot
