-- What a scan sees: the nearest live robot in an arc.
use Rattle.std.specs.Prelude.{ℕ, min, max, fold, Bool, ◌&&◌, ◌||◌, ◌==◌, nat_le, List, [], ◌∷◌, filter, map, ℤ, pos, ◌-ℤ◌, unsigned_abs}
unfoldable pub use Rattle.arith.specs.Degree.{apart}
use Rattle.arith.specs.Root.{root_of}
use Rattle.arith.specs.Bearing.{bearing_of}
use Rattle.arena.specs.Field.{FieldRobot, Field, is_alive, robot_at, metres_x, metres_y}
use Rattle.arena.specs.Collisions.{square, others}

-- from one robot to another, in whole metres
unfoldable pub east_to : FieldRobot → FieldRobot → ℤ
east_to from to = pos (metres_x to) -ℤ pos (metres_x from)

unfoldable pub north_to : FieldRobot → FieldRobot → ℤ
north_to from to = pos (metres_y to) -ℤ pos (metres_y from)

module _ (from : FieldRobot) (degree resolution : ℕ) where
  -- a robot at the same whole metres lies in every arc
  unfoldable pub in_arc : FieldRobot → Bool
  in_arc to =
      ((metres_x to == metres_x from) && (metres_y to == metres_y from)) ||
      nat_le (apart (bearing_of (east_to from to) (north_to from to)) degree) resolution

  unfoldable pub sees : FieldRobot → Bool
  sees to = is_alive to && in_arc to

-- whole metres rounded down, but at least 1
unfoldable pub range_of : FieldRobot → FieldRobot → ℕ
range_of from to =
    max 1 (unsigned_abs (root_of (pos (square (metres_x from) (metres_y from) (metres_x to) (metres_y to)))))

-- the least of some ranges, or 0
unfoldable pub nearest : List ℕ → ℕ
nearest [] = 0
nearest (range ∷ ranges) = fold min range ranges

unfoldable pub scanned : Field → ℕ → ℕ → ℕ → ℕ
scanned field i degree resolution =
    let from = robot_at field i in
    nearest (map (range_of from) (filter (sees from degree resolution) (others field.robots i)))
