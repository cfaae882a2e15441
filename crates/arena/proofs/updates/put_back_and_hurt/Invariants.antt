use Rattle.std.proofs.Common.{◌≡◌, ℕ, ◌+◌, ◌<◌, ◌≤◌, length, map, get_or}
use Rattle.arena.specs.Field.{Field}
use Rattle.arena.specs.Collisions.{attempted_move}
use Rattle.arena.specs.Ahead.{robot_ahead}
use Rattle.arena.specs.Representing.{HoldsShots}
use Rattle.arena.proofs.InPlace.{none}
use Rattle.arena.proofs.Loops.{after_at}
use Rattle.arena.proofs.updates.put_back_and_hurt.Given as goal

-- the robots so far are where they are after the update, and the others are as they were
abbrev pub invariant-loop-i : goal.invariant-loop-i
invariant-loop-i l = record {
  size : length l.robots ≡ length l.initial.robots;
  rest : (k : ℕ) → l.i ≤ k → get_or l.robots k none ≡ get_or l.initial.robots k none;
  robots : (f : Field) → l.update ≡ f.updates + 1 → l.initial.robots ≡ map robot_ahead f.robots →
      l.movers ≡ map attempted_move f.robots → HoldsShots f.updates l.missiles f.shots →
      (k : ℕ) → k < l.i → get_or l.robots k none ≡ after_at f k;
}
