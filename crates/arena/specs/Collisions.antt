-- Which robots collide in an update. Every pair is judged by where both were and where both would be next.
use Rattle.std.specs.Prelude.{ℕ, ◌+◌, ◌*◌, Bool, not, ◌&&◌, ◌||◌, ◌==◌, nat_lt, nat_le, if◌then◌else◌, List, ◌++◌, take, drop, count_by, slice_index_or}
use Rattle.std.specs.Int.{abs_diff}
pub use Rattle.arena.specs.declared.collisions.AttemptedMove.{AttemptedMove}
use Rattle.arena.specs.Rules.{near}
use Rattle.arena.specs.Leg.{Leg, place_x, place_y, stopped_by_walls}
use Rattle.arena.specs.Field.{FieldRobot, is_alive, no_robot}

-- a dead robot stays
unfoldable pub leg_alone : FieldRobot → Leg
leg_alone robot = if is_alive robot then stopped_by_walls robot.leg else robot.leg

-- the place before the update, and the candidate for that after it
unfoldable pub attempted_move : FieldRobot → AttemptedMove
attempted_move robot = record {
  live = is_alive robot;
  from = record { x = place_x robot.leg; y = place_y robot.leg };
  to = record { x = place_x (leg_alone robot); y = place_y (leg_alone robot) };
}

unfoldable pub moves : AttemptedMove → Bool
moves m = not (m.to.x == m.from.x) || not (m.to.y == m.from.y)

-- the squared distance of two points
unfoldable pub square : ℕ → ℕ → ℕ → ℕ → ℕ
square x y to_x to_y = abs_diff x to_x * abs_diff x to_x + abs_diff y to_y * abs_diff y to_y

module _ (a b : AttemptedMove) where
  -- the candidates are less than a metre apart on both axes
  unfoldable pub is_close : Bool
  is_close = nat_lt (abs_diff a.to.x b.to.x) near && nat_lt (abs_diff a.to.y b.to.y) near

  unfoldable pub is_no_further : Bool
  is_no_further = nat_le (square a.to.x a.to.y b.to.x b.to.y) (square a.from.x a.from.y b.from.x b.from.y)

  unfoldable pub collides : Bool
  collides = a.live && b.live && is_close && (moves a || moves b) && is_no_further

-- all but the one with this index
unfoldable pub others : {A : Type 0} → List A → ℕ → List A
others xs i = take i xs ++ drop (i + 1) xs

-- with how many others the robot with this index collides
unfoldable pub collision_count : List AttemptedMove → ℕ → ℕ
collision_count movers i = count_by (collides (slice_index_or movers i (attempted_move no_robot))) (others movers i)
