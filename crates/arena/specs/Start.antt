-- The field at the start of a match: each robot in a quadrant of its own.
use Rattle.std.specs.Prelude.{ℕ, ◌+◌, ◌*◌, ◌/◌, ◌%◌, ◌==◌, if◌then◌else◌, [], map}
use Rattle.std.specs.List.{range_with_len}
use Rattle.arena.specs.Rules.{first_low_start, first_high_start, start_places}
use Rattle.arena.specs.Leg.{leg_at_rest}
use Rattle.arena.specs.Field.{FieldRobot, Field}
use Rattle.arena.specs.Random.{random_word}

unfoldable pub robot_at_rest : ℕ → ℕ → FieldRobot
robot_at_rest x y = record { leg = leg_at_rest x y; damages = [] }

-- a word's place in the low half of an axis, 0, or in the high
unfoldable pub drawn_place : ℕ → ℕ → ℕ
drawn_place half w = (if half == 0 then first_low_start else first_high_start) + w % start_places

module _ (seed number : ℕ) where
  -- the first word chooses the quadrant of robot 0, and the others follow: bit 0 is the east half, bit 1 the north half
  unfoldable pub quadrant : ℕ → ℕ
  quadrant i = (i + random_word seed number 0 % 4) % 4

  -- each robot draws x and then y
  unfoldable pub drawn_robot : ℕ → FieldRobot
  drawn_robot i =
      let q = quadrant i in
      robot_at_rest (drawn_place (q % 2) (random_word seed number (1 + 2 * i)))
      (drawn_place (q / 2) (random_word seed number (2 + 2 * i)))

  unfoldable pub start : ℕ → Field
  start n = record {
    seed = seed;
    match_number = number;
    drawn = 1 + 2 * n;
    updates = 0;
    robots = map drawn_robot (range_with_len 0 n);
    shots = [];
  }
