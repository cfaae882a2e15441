use Rattle.std.proofs.Common.{◌≡◌, ℕ, ◌+◌, ◌*◌, length, map}
use Rattle.std.specs.List.{range_with_len}
use Rattle.arena.specs.Random.{generator}
use Rattle.arena.specs.Start.{drawn_robot}
use Rattle.arena.specs.Arena.{robot_of}
use Rattle.arena.proofs.starts.drawn_robots.Given as goal

abbrev pub invariant-loop-i : goal.invariant-loop-i
invariant-loop-i l = record {
  count : length l.robots.items ≡ l.i;
  words : (seed number : ℕ) → l.fn.random ≡ generator seed number 0 → l.random ≡ generator seed number (1 + 2 * l.i);
  robots : (seed number : ℕ) → l.fn.random ≡ generator seed number 0 →
      l.robots.items ≡ map robot_of (map (drawn_robot seed number) (range_with_len 0 l.i));
}
