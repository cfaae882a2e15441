use Rattle.std.proofs.Common.{◌≡◌, ℕ, ◌<◌, ◌≤◌, List, length, take, map, get_or}
use Rattle.arena.specs.Field.{FieldRobot, no_robot}
use Rattle.arena.specs.Collisions.{attempted_move}
use Rattle.arena.specs.Arena.{robot_of}
use Rattle.arena.specs.Ahead.{robot_ahead}
use Rattle.arena.proofs.InPlace.{none}
use Rattle.arena.proofs.updates.move_all_with_attempts.Given as goal

-- the robots so far have moved on, and the others are as they were
abbrev pub invariant-loop-robot : goal.invariant-loop-robot
invariant-loop-robot l = record {
  size : length l.robot-items ≡ length l.initial.robot-items;
  count : length l.movers.items ≡ l.robot-index;
  rest : (k : ℕ) → l.robot-index ≤ k → get_or l.robot-items k none ≡ get_or l.initial.robot-items k none;
  ahead : (rs : List FieldRobot) → l.initial.robot-items ≡ map robot_of rs → (k : ℕ) → k < l.robot-index →
      get_or l.robot-items k none ≡ robot_ahead (get_or rs k no_robot);
  movers : (rs : List FieldRobot) → l.initial.robot-items ≡ map robot_of rs →
      l.movers.items ≡ map attempted_move (take l.robot-index rs);
}
