-- In which degree a point lies, dx metres east and dy metres north.
use Rattle.std.specs.Prelude.{ℕ, List, [], ◌∷◌, map, ℤ, ◌+ℤ◌, ◌*ℤ◌, fold}
use Rattle.std.specs.Int.{int_max}
use Rattle.std.specs.Ordering.{int_eq}
use Rattle.std.specs.List.{range_with_len, position_or_len}
use Rattle.arith.specs.Circle.{sine_at, cosine_at}

-- how far the point (dx, dy) reaches in the direction of a degree, scaled by 100,000
unfoldable pub projection_of : ℤ → ℤ → ℕ → ℤ
projection_of dx dy degree = dx *ℤ cosine_at degree +ℤ dy *ℤ sine_at degree

-- the first index of the greatest of some numbers
unfoldable pub first_greatest : List ℤ → ℕ
first_greatest [] = 0
first_greatest (x ∷ xs) = position_or_len (int_eq (fold int_max x xs)) (x ∷ xs)

unfoldable pub projections : ℤ → ℤ → List ℤ
projections dx dy = map (projection_of dx dy) (range_with_len 0 360)

-- the first degree of the greatest reach
unfoldable pub bearing_of : ℤ → ℤ → ℕ
bearing_of dx dy = first_greatest (projections dx dy)
