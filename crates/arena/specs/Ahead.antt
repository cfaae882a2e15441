-- What the code makes of each robot before it looks for collisions.
use Rattle.std.specs.Prelude.{◌&&◌, ◌+◌, min, if◌then◌else◌}
use Rattle.arena.specs.Rules.{deadly, wall_damage}
use Rattle.arena.specs.Leg.{tried, hits_wall}
use Rattle.arena.specs.Field.{FieldRobot, damage_of, is_alive}
use Rattle.arena.specs.Collisions.{leg_alone}
use Rattle.arena.specs.Arena.{Robot, motion_of}

-- a robot that has moved on and was hurt by a wall, before collisions and bursts
unfoldable pub robot_ahead : FieldRobot → Robot
robot_ahead robot = record {
  motion = motion_of (leg_alone robot);
  damage = min (damage_of robot + (if is_alive robot && hits_wall (tried robot.leg) then wall_damage else 0)) deadly;
}
