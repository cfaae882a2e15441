use Rattle.std.proofs.Common.{◌≡◌, ℕ, ◌<◌, ◌≤◌, List, length, map, get_or}
use Rattle.arena.specs.Field.{FieldRobot, no_robot}
use Rattle.arena.specs.Arena.{robot_of}
use Rattle.arena.specs.Ahead.{robot_ahead}
use Rattle.arena.specs.Apart.{IsNearby}
use Rattle.arena.proofs.InPlace.{none}
use Rattle.arena.proofs.updates.move_all.Given as goal

-- the robots so far have moved on, and the others are as they were
abbrev pub invariant-loop-robot : goal.invariant-loop-robot
invariant-loop-robot l = record {
  size : length l.robot-items ≡ length l.initial.robot-items;
  rest : (k : ℕ) → l.robot-index ≤ k → get_or l.robot-items k none ≡ get_or l.initial.robot-items k none;
  ahead : (rs : List FieldRobot) → l.initial.robot-items ≡ map robot_of rs → (k : ℕ) → k < l.robot-index →
      get_or l.robot-items k none ≡ robot_ahead (get_or rs k no_robot);
  nearby : (k : ℕ) → k < l.robot-index →
      IsNearby (get_or l.initial.robot-items k none).motion (get_or l.robot-items k none).motion;
}
