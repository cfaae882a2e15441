-- The nearest robot of a scan, found by comparing squared distances along ways.
use Rattle.std.specs.Prelude.{◌≡◌, ◌⊎◌, ◌≤◌, ℕ, ◌+◌, ◌*◌, Bool, ◌&&◌, ◌||◌, nat_le, min, max, fold, List, [], ◌==◌, if◌then◌else◌, ℤ, pos, unsigned_abs}
use Rattle.std.specs.Ordering.{int_eq}
use Rattle.arith.specs.Degree.{apart}
use Rattle.arith.specs.Bearing.{bearing_of}
use Rattle.arith.specs.Root.{root_of}
use Rattle.arena.specs.Field.{FieldRobot, metres_x, metres_y}
use Rattle.arena.specs.Collisions.{square}

-- a robot is at this place, in whole metres
pub record IsAtMetres (x y : ℕ) (robot : FieldRobot) : Type 0 where
  pub east : x ≡ metres_x robot
  pub north : y ≡ metres_y robot

-- a way of n metres east and north leads into an arc, or nowhere
unfoldable pub arc_contains : ℤ → ℤ → ℕ → ℕ → Bool
arc_contains east north degree resolution =
    (int_eq east (pos 0) && int_eq north (pos 0)) || nat_le (apart (bearing_of east north) degree) resolution

-- its squared length
unfoldable pub squared_length : ℤ → ℤ → ℕ
squared_length east north = unsigned_abs east * unsigned_abs east + unsigned_abs north * unsigned_abs north

-- ranges compare as these do: the squared distance in whole metres
unfoldable pub square_to : FieldRobot → FieldRobot → ℕ
square_to from to = square (metres_x from) (metres_y from) (metres_x to) (metres_y to)

-- more than any squared distance: no robot is seen
abbrev pub out_of_sight : ℕ
out_of_sight = 4294967295

-- no squared distance of two places in whole metres is greater
abbrev pub most_square : ℕ
most_square = 2000000

-- a squared distance in the field, or none
abbrev pub IsSquare : ℕ → Type 0
IsSquare n = (n ≡ out_of_sight) ⊎ (n ≤ most_square)

-- the least of some squares, or `out_of_sight` if there are none
pub record IsLeast (n : ℕ) (squares : List ℕ) : Type 0 where
  pub least : n ≡ fold min out_of_sight squares
  pub none : n ≡ out_of_sight → squares ≡ []

-- the range at a squared distance, at least 1, or 0 for no robot
unfoldable pub range_at : ℕ → ℕ
range_at square = if square == out_of_sight then 0 else max 1 (unsigned_abs (root_of (pos square)))
