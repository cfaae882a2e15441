-- Robots so far from each other that none of them collide in the next updates.
use Rattle.std.specs.Prelude.{◌≡◌, ℕ, ◌+◌, ◌*◌, ◌<◌, ◌≤◌, max, unsigned_abs, List, length, slice_index_or}
use Rattle.std.specs.Int.{abs_diff}
use Rattle.arena.specs.Field.{no_robot}
use Rattle.arena.specs.Arena.{Motion, Robot, robot_of}

-- the robot of a number; past the last one, a dead one
abbrev pub robot_in : List Robot → ℕ → Robot
robot_in robots k = slice_index_or robots k (robot_of no_robot)

-- in an update a robot moves at most ten metres on each axis
pub record IsNearby (before after : Motion) : Type 0 where
  pub on_x : abs_diff before.x after.x ≤ 100
  pub on_y : abs_diff before.y after.y ≤ 100

-- a robot is where it was
pub record IsAtPlace (before after : Motion) : Type 0 where
  pub on_x : after.x ≡ before.x
  pub on_y : after.y ≡ before.y

-- how far two are from each other, on the axis on which they are further apart
abbrev pub gap : Motion → Motion → ℕ
gap a b = max (abs_diff a.x b.x) (abs_diff a.y b.y)

-- the same, as a difference of sums
abbrev pub sum_gap : Motion → Motion → ℕ
sum_gap a b =
    max (abs_diff (unsigned_abs a.east) (unsigned_abs b.east)) (abs_diff (unsigned_abs a.north) (unsigned_abs b.north))

-- so far from each other that for n updates no two robots come close: less than a metre on both axes
pub record AreApartFor (updates : ℕ) (robots : List Robot) : Type 0 where
  pub gaps : (a b : ℕ) → a < b → b < length robots → 0 < updates
      → 10 + 200 * updates ≤ gap (robot_in robots a).motion (robot_in robots b).motion
