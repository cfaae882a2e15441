-- One update, `moved`. Every robot and every pair is judged on the same old field and the same candidates. Its steps:
-- 1. Heading, speed and distance: `steered`, `sped` and `travelled` (Leg) make the `tried` leg.
-- 2. Walls: `stopped_by_walls` (Leg), the candidate.
-- 3. Collisions: `collision_count` (Collisions) counts the pairs; `leg_after` puts those back that are in one.
-- 4. Bursts: `bursts` (Shots), of the shots that are due, at the place of the leg after that.
-- 5. Deaths: `is_alive` (Field), from the sum of all hurts.
use Rattle.std.specs.Prelude.{ℕ, ◌+◌, nat_lt, if◌then◌else◌, List, [], ◌∷◌, ◌++◌, length, map, replicate}
use Rattle.std.specs.List.{range_with_len}
use Rattle.arena.specs.Rules.{wall_damage, knock_damage}
use Rattle.arena.specs.Leg.{Leg, stopped_at, place_x, place_y, stopped_by_walls, tried, hits_wall}
use Rattle.arena.specs.Field.{Shot, FieldRobot, Field, is_alive, robot_at}
use Rattle.arena.specs.Collisions.{attempted_move, collision_count}
use Rattle.arena.specs.Shots.{bursts}

-- a robot that collides is at its old place again, with the heading that it turned to
unfoldable pub put_back : Leg → Leg → Leg
put_back old leg = stopped_at (place_x old) (place_y old) leg

unfoldable pub leg_after : Leg → ℕ → Leg
leg_after leg touched = if nat_lt 0 touched then put_back leg (stopped_by_walls leg) else stopped_by_walls leg

-- a wall does damage, once, and so does each collision
unfoldable pub knock_damages : Leg → ℕ → List ℕ
knock_damages leg touched = (if hits_wall (tried leg) then wall_damage ∷ [] else []) ++ replicate touched knock_damage

-- given how many others it collides with; a dead robot stays as it is
unfoldable pub moved_robot : ℕ → List Shot → ℕ → FieldRobot → FieldRobot
moved_robot update shots touched robot =
    if is_alive robot then
    (let leg = leg_after robot.leg touched in
    record {
      leg = leg;
      damages = robot.damages ++ knock_damages robot.leg touched
          ++ bursts update shots (place_x leg) (place_y leg);
    })
    else robot

unfoldable pub moved : Field → Field
moved field =
    let movers = map attempted_move field.robots in
    record field {
      updates = field.updates + 1;
      robots = map (λ i. moved_robot (field.updates + 1) field.shots (collision_count movers i) (robot_at field i))
          (range_with_len 0 (length field.robots));
    }
