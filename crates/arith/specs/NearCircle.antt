-- Sine and cosine lie nearly on a circle.
use Rattle.std.specs.Prelude.{ℕ, ◌+◌, ◌*◌, ◌^◌, ◌≤◌, ℤ, unsigned_abs}
use Rattle.std.specs.Int.{abs_diff}
use Rattle.arith.specs.Circle.{cosine_at, sine_at}

-- the squares of the two add up to the square of the scale, but for what the rounding of the table leaves
abbrev pub square_of : ℤ → ℕ
square_of z = unsigned_abs z * unsigned_abs z

abbrev pub IsNearlyOnCircle : ℕ → Type 0
IsNearlyOnCircle d = abs_diff (square_of (sine_at d) + square_of (cosine_at d)) (10 ^ 10) ≤ 150000
