-- What an arena keeps of a field: sums of each way, one number of damage for each robot, and the missiles in the air.
use Rattle.std.specs.Prelude.{ℕ, ◌==◌, ◌&&◌, Bool, List, nat_lt, ℤ, slice_index_or}
use Rattle.rand_pcg.specs.Lcg.{Lcg}
pub use Rattle.arena.specs.declared.missile.Missile.{Missile}
use Rattle.arena.specs.Rules.{deadly}
use Rattle.arena.specs.Leg.{Leg, place_x, place_y}
use Rattle.arena.specs.Sums.{sum_east, sum_north, step_east, step_north}
use Rattle.arena.specs.Field.{Shot, FieldRobot, damage_of, no_robot}

-- a motion, of a leg: the sums, the place to which they lead, and how much they grow in an update
pub record Motion : Type 0 where
  pub east : ℤ
  pub north : ℤ
  pub x : ℕ
  pub y : ℕ
  pub step_east : ℤ
  pub step_north : ℤ
  pub heading : ℕ
  pub speed : ℕ
  pub wanted_heading : ℕ
  pub wanted_speed : ℕ
  pub steady : Bool

-- a robot wants the heading and the speed that it has
unfoldable pub is_steady : ℕ → ℕ → ℕ → ℕ → Bool
is_steady heading wanted_heading speed wanted_speed = (wanted_heading == heading) && (speed == wanted_speed)

unfoldable pub motion_of : Leg → Motion
motion_of leg = record {
  east = sum_east leg;
  north = sum_north leg;
  x = place_x leg;
  y = place_y leg;
  step_east = step_east leg;
  step_north = step_north leg;
  heading = leg.heading;
  speed = leg.speed;
  wanted_heading = leg.wanted_heading;
  wanted_speed = leg.wanted_speed;
  steady = is_steady leg.heading leg.wanted_heading leg.speed leg.wanted_speed;
}

-- a robot: its motion and its damage in percent
pub record Robot : Type 0 where
  pub motion : Motion
  pub damage : ℕ

unfoldable pub robot_of : FieldRobot → Robot
robot_of robot = record { motion = motion_of robot.leg; damage = damage_of robot }

-- a shot in the air
unfoldable pub shot_of : ℕ → Missile → Shot
shot_of owner missile = record { owner = owner; burst = missile.burst; x = missile.at.x; y = missile.at.y }

-- the most updates that an arena counts: those of 1,000,000,000 cycles
abbrev pub most_updates : ℕ
most_updates = 66666667

-- an arena: how many updates were done, the robots, the missiles of each in the air, and the generator
pub record Arena : Type 0 where
  pub updates : ℕ
  pub robots : List Robot
  pub slots : List (List Missile)
  pub random : Lcg

-- a robot lives; past the last one none does
unfoldable pub is_live : Arena → ℕ → Bool
is_live g i = nat_lt (slice_index_or g.robots i (robot_of no_robot)).damage deadly
