-- What the next update will do: which bursts come, who meets a wall or another robot, and what each takes.
use Rattle.std.specs.Prelude.{◌≡◌, ℕ, ◌+◌, ◌*◌, ◌<◌, min, Bool, not, ◌&&◌, ◌==◌, if◌then◌else◌, List, length, map, flat_map, sum, count_by}
use Rattle.std.specs.List.{range_with_len}
pub use Rattle.arena.specs.declared.bursts.Burst.{Burst}
use Rattle.arena.specs.Rules.{deadly, knock_damage, wall_damage}
use Rattle.arena.specs.Leg.{Leg, place_x, place_y, tried, hits_wall}
use Rattle.arena.specs.Field.{Shot, Field, damage_of, robot_at, is_live_at}
use Rattle.arena.specs.Collisions.{attempted_move, collides, square, collision_count}
use Rattle.arena.specs.Shots.{ring, in_air, due_at}
use Rattle.arena.specs.Moved.{leg_after, moved}
use Rattle.arena.specs.Arena.{Missile, shot_of}

-- the burst of a shot
unfoldable pub burst_of : Shot → Burst
burst_of shot = record { robot = shot.owner; at = record { x = shot.x; y = shot.y } }

-- that of a missile
unfoldable pub burst_by : ℕ → Missile → Burst
burst_by i missile = burst_of (shot_of i missile)

-- the bursts of a robot's missiles in an update, in the order in which it fired them
unfoldable pub own_bursts : ℕ → ℕ → List Shot → ℕ → List Burst
own_bursts update updates shots i = map burst_of (due_at update (in_air updates i shots))

-- the bursts of the next update, robot by robot
unfoldable pub due : Field → List Burst
due field =
    flat_map (own_bursts (field.updates + 1) field.updates field.shots) (range_with_len 0 (length field.robots))

-- a wall stops a robot
unfoldable pub meets_wall : Field → ℕ → Bool
meets_wall field i = is_live_at field i && hits_wall (tried (robot_at field i).leg)

-- two robots collide, and both are hurt
unfoldable pub collides_with : Field → ℕ → ℕ → Bool
collides_with field a b =
    not (a == b) && collides (attempted_move (robot_at field a)) (attempted_move (robot_at field b))

-- the leg that a live robot is on after the update
unfoldable pub next_leg : Field → ℕ → Leg
next_leg field i = leg_after (robot_at field i).leg (collision_count (map attempted_move field.robots) i)

-- what a burst takes from a robot, at the place where it then is
unfoldable pub taken_by : Field → ℕ → Burst → ℕ
taken_by field i burst =
    if is_live_at field i then
    ring (square (place_x (next_leg field i)) (place_y (next_leg field i)) burst.at.x burst.at.y)
    else 0

-- all that the update takes from a robot
unfoldable pub damage_taken : Field → ℕ → ℕ
damage_taken field i =
    (if meets_wall field i then wall_damage else 0)
    + knock_damage * count_by (collides_with field i) (range_with_len 0 (length field.robots))
    + sum (map (taken_by field i) (due field))

-- that is what the update makes of each robot's damage
abbrev pub AddsUp : Field → Type 0
AddsUp field = (i : ℕ) → i < length field.robots
    → damage_of (robot_at (moved field) i) ≡ min (damage_of (robot_at field i) + damage_taken field i) deadly
