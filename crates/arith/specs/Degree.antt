-- Whole degrees of the round, 0 to 359.
use Rattle.std.specs.Prelude.{ℕ, ◌-◌, ◌%◌, min, ℤ, pos, negsuc}
use Rattle.std.specs.Int.{abs_diff}

-- a negative number is counted back from 360
unfoldable pub degree_of : ℤ → ℕ
degree_of (pos n) = n % 360
degree_of (negsuc n) = 359 - n % 360

-- how far apart two degrees are round the circle
unfoldable pub apart : ℕ → ℕ → ℕ
apart a b = min (abs_diff a b) (360 - abs_diff a b)
