-- The sine and the cosine of a whole degree, scaled by 100,000, by quadrants.
use Rattle.std.specs.Prelude.{ℕ, ◌+◌, ◌-◌, ◌%◌, ℤ, pos, neg_ℤ, nat_le, if◌then◌else◌, slice_index}
use Rattle.arith.specs.Table.{sines}
use Rattle.arith.specs.Degree.{degree_of}

-- of a degree from 0 to 359: the first quadrant reads the table, the second reads it backwards, the others are negative
unfoldable pub sine_at : ℕ → ℤ
sine_at d =
    if nat_le d 90 then pos (slice_index sines d)
    else if nat_le d 180 then pos (slice_index sines (180 - d))
    else if nat_le d 270 then neg_ℤ (pos (slice_index sines (d - 180)))
    else neg_ℤ (pos (slice_index sines (360 - d)))

unfoldable pub cosine_at : ℕ → ℤ
cosine_at d = sine_at ((d + 90) % 360)

-- of any number, by its degree of the round
unfoldable pub sine_of : ℤ → ℤ
sine_of n = sine_at (degree_of n)

unfoldable pub cosine_of : ℤ → ℤ
cosine_of n = cosine_at (degree_of n)
