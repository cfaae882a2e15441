use Rattle.std.proofs.Common.{◌≡◌, ℕ, ◌+◌, ◌<◌, ◌≤◌, length, map, get_or}
use Rattle.arena.specs.Field.{Field}
use Rattle.arena.specs.Collisions.{attempted_move, collision_count}
use Rattle.arena.specs.Ahead.{robot_ahead}
use Rattle.arena.specs.Representing.{HoldsShots}
use Rattle.arena.specs.Apart.{IsAtPlace}
use Rattle.arena.proofs.InPlace.{none}
use Rattle.arena.proofs.Loops.{after_at}
use Rattle.arena.proofs.updates.hurt_near_bursts.Given as goal

-- the robots so far are where they are after the update, and the others are as they were
abbrev pub invariant-loop-robot : goal.invariant-loop-robot
invariant-loop-robot l = record {
  size : length l.robot-items ≡ length l.initial.robot-items;
  rest : (k : ℕ) → l.robot-index ≤ k → get_or l.robot-items k none ≡ get_or l.initial.robot-items k none;
  robots : (f : Field) → l.update ≡ f.updates + 1 → l.initial.robot-items ≡ map robot_ahead f.robots →
      HoldsShots f.updates l.missiles f.shots →
      ((i : ℕ) → i < length f.robots → collision_count (map attempted_move f.robots) i ≡ 0) → (k : ℕ) →
      k < l.robot-index →
      get_or l.robot-items k none ≡ after_at f k;
  places : (k : ℕ) → k < l.robot-index →
      IsAtPlace (get_or l.initial.robot-items k none).motion (get_or l.robot-items k none).motion;
}
