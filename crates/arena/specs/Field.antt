-- The field: its robots, with every hurt that each of them took, and every shot that was fired.
use Rattle.std.specs.Prelude.{ℕ, ◌/◌, min, Bool, List, [], ◌∷◌, nat_lt, sum, count_by, slice_index_or}
use Rattle.arena.specs.Rules.{deadly}
use Rattle.arena.specs.Leg.{Leg, leg_at_rest, place_x, place_y}

-- who fired, and in which update and where it bursts, in tenths of a metre
pub record Shot : Type 0 where
  pub owner : ℕ
  pub burst : ℕ
  pub x : ℕ
  pub y : ℕ

pub record FieldRobot : Type 0 where
  pub leg : Leg
  pub damages : List ℕ

-- the seed and the match's number choose the generator, of which `drawn` words were used
pub record Field : Type 0 where
  pub seed : ℕ
  pub match_number : ℕ
  pub drawn : ℕ
  pub updates : ℕ
  pub robots : List FieldRobot
  pub shots : List Shot

-- the damage is in percent, and no more than makes a robot dead
unfoldable pub damage_of : FieldRobot → ℕ
damage_of robot = min (sum robot.damages) deadly

unfoldable pub is_alive : FieldRobot → Bool
is_alive robot = nat_lt (damage_of robot) deadly

-- what is read past the last robot: a dead one
unfoldable pub no_robot : FieldRobot
no_robot = record { leg = leg_at_rest 0 0; damages = deadly ∷ [] }

unfoldable pub robot_at : Field → ℕ → FieldRobot
robot_at field i = slice_index_or field.robots i no_robot

unfoldable pub is_live_at : Field → ℕ → Bool
is_live_at field i = is_alive (robot_at field i)

unfoldable pub live_count : Field → ℕ
live_count field = count_by is_alive field.robots

-- a robot's place in whole metres, rounded down
unfoldable pub metres_x : FieldRobot → ℕ
metres_x robot = place_x robot.leg / 10

unfoldable pub metres_y : FieldRobot → ℕ
metres_y robot = place_y robot.leg / 10
