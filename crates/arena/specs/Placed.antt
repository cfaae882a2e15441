-- A field whose robots were put at given places, for tests and drills.
use Rattle.std.specs.Prelude.{ℕ, List, [], map, ℤ, pos, ◌≤ℤ◌}
use Rattle.arena.specs.Rules.{last_place}
use Rattle.arena.specs.Leg.{clamped}
use Rattle.arena.specs.Field.{Field}
use Rattle.arena.specs.Start.{robot_at_rest}

-- a place inside the field
abbrev pub IsPlace : ℤ × ℤ → Type 0
IsPlace place =
    (pos 0 ≤ℤ place.0) × (place.0 ≤ℤ pos last_place) × (pos 0 ≤ℤ place.1) × (place.1 ≤ℤ pos last_place)

-- robots at given places, with no word drawn
unfoldable pub placed : ℕ → ℕ → List (ℤ × ℤ) → Field
placed seed number places = record {
  seed = seed;
  match_number = number;
  drawn = 0;
  updates = 0;
  robots = map (λ place. robot_at_rest (clamped last_place place.0) (clamped last_place place.1)) places;
  shots = [];
}
