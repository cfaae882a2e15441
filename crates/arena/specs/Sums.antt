-- The sums that are kept of a leg, one for each axis: where it leads, in hundred-thousandths of a tenth of a metre.
use Rattle.std.specs.Prelude.{ℕ, ◌+◌, ◌*◌, ◌/◌, Bool, ◌||◌, ℤ, pos, negsuc, ◌+ℤ◌, ◌*ℤ◌, ◌≤ℤ◌, int_lt, unsigned_abs}
use Rattle.arith.specs.Circle.{sine_at, cosine_at}
use Rattle.arena.specs.Rules.{last_place}
use Rattle.arena.specs.Leg.{Leg, clamped, way_east, way_north}

-- what is left of a tenth is dropped: so a sum that falls starts at the end of its tenth
unfoldable pub rounding_start : ℤ → ℤ
rounding_start (pos n) = pos 0
rounding_start (negsuc n) = pos 99999

-- from an origin, for a heading of which so much lies on the axis, after a way
unfoldable pub sum_from : ℕ → ℤ → ℤ → ℤ
sum_from origin part way = pos (100000 * origin) +ℤ rounding_start part +ℤ way

unfoldable pub sum_east : Leg → ℤ
sum_east leg = sum_from leg.origin_x (cosine_at leg.heading) (way_east leg)

unfoldable pub sum_north : Leg → ℤ
sum_north leg = sum_from leg.origin_y (sine_at leg.heading) (way_north leg)

-- how much a sum grows in an update
unfoldable pub step_east : Leg → ℤ
step_east leg = pos leg.speed *ℤ cosine_at leg.heading

unfoldable pub step_north : Leg → ℤ
step_north leg = pos leg.speed *ℤ sine_at leg.heading

-- the sums of the field's places go from 0 to here
abbrev pub last_sum : ℕ
last_sum = 100000 * last_place + 99999

abbrev pub IsInField : ℤ → Type 0
IsInField sum = (pos 0 ≤ℤ sum) × (sum ≤ℤ pos last_sum)

-- the place to which a sum in the field leads
abbrev pub place_of : ℤ → ℕ
place_of sum = unsigned_abs sum / 100000

-- a sum leads out of the field, and the place nearest to where it leads
unfoldable pub is_beyond : ℤ → Bool
is_beyond sum = int_lt sum (pos 0) || int_lt (pos last_sum) sum

unfoldable pub clamped_place_of : ℤ → ℕ
clamped_place_of sum = clamped last_sum sum / 100000
