-- The degree, from -90 to 90, that a number belongs to as a tangent scaled by 100,000.
use Rattle.std.specs.Prelude.{ℕ, suc, ◌+◌, ◌-◌, ◌/◌, List, ℤ, pos, negsuc, neg_ℤ, nat_lt, nat_le, if◌then◌else◌, slice_index}
use Rattle.std.specs.List.{count_by, range_with_len}
use Rattle.arith.specs.Table.{tangents}

-- the number at which degree k begins, for k from 1 to 90: half way between the tangents of k - 1 and k, and for 90
-- twice the tangent of 89
unfoldable pub bound_of : ℕ → ℕ
bound_of k =
    if nat_lt k 90 then (slice_index tangents (k - 1) + slice_index tangents k) / 2
    else 11457992

unfoldable pub quarter : List ℕ
quarter = range_with_len 1 90

-- how many of them begin at the number or before it
unfoldable pub degrees_reached : ℕ → ℕ
degrees_reached n = count_by (λ k. nat_le (bound_of k) n) quarter

-- of a negative number it is the same degree below 0
unfoldable pub arctangent_of : ℤ → ℤ
arctangent_of (pos n) = pos (degrees_reached n)
arctangent_of (negsuc n) = neg_ℤ (pos (degrees_reached (suc n)))
