-- The tangent of a number of degrees, scaled by 100,000. It repeats after half a round.
use Rattle.std.specs.Prelude.{ℕ, ◌-◌, ◌%◌, ℤ, pos, neg_ℤ, nat_lt, ◌==◌, if◌then◌else◌, slice_index}
use Rattle.arith.specs.Table.{tangents}
use Rattle.arith.specs.Degree.{degree_of}

-- of a degree from 0 to 179: at 90 it is the greatest number of 32 bits, beyond 90 the table backwards and negative
unfoldable pub tangent_at : ℕ → ℤ
tangent_at d =
    if nat_lt d 90 then pos (slice_index tangents d)
    else if d == 90 then pos 2147483647
    else neg_ℤ (pos (slice_index tangents (180 - d)))

-- of any number, by its degree of the round
unfoldable pub tangent_of : ℤ → ℤ
tangent_of n = tangent_at (degree_of n % 180)
