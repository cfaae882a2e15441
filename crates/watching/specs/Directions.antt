-- Directions: the eight points of the compass, from 0 in the east on, round like degrees.
use Rattle.std.specs.Prelude.{ℕ, ℤ, ◌+◌, ◌%◌, ◌/◌}
use Rattle.arith.specs.Degree.{degree_of}

-- each has 45 whole degrees, 22 of them on both sides of its own
abbrev pub direction_of : ℤ → ℕ
direction_of degree = (degree_of degree + 22) % 360 / 45
