use Rattle.std.proofs.Common.{◌≡◌, length, take, map}
use Rattle.arena.specs.Rules.{last_place}
use Rattle.arena.specs.Leg.{clamped}
use Rattle.arena.specs.Start.{robot_at_rest}
use Rattle.arena.specs.Arena.{robot_of}
use Rattle.arena.proofs.starts.placed_robots.Given as goal

abbrev pub invariant-loop-place : goal.invariant-loop-place
invariant-loop-place l = record {
  count : length l.robots.items ≡ l.place-index;
  robots : l.robots.items ≡
      map (λ place. robot_of (robot_at_rest (clamped last_place place.0) (clamped last_place place.1)))
      (take l.place-index l.place-items);
}
