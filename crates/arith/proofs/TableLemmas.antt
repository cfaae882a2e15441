-- What is true of each entry of the table of tangents.
use Rattle.std.proofs.Common.{◌≡◌, ℕ, ◌+◌, ◌<◌, ◌≤◌, Bool, true, nat_le, nat_lt, slice_index, refl, arith}
use Rattle.std.specs.List.Sorted.{IsStrictlyIncreasing}
use Rattle.std.proofs.lemmas.Bool.Decides.{nat_tests}
use Rattle.arith.specs.Table.{tangents}
use Rattle.arith.proofs.Below.{passes_below, passes_at}

-- none is beyond the last
is_small : ℕ → Bool
is_small d = nat_le (slice_index tangents d) 5728996

all_small : passes_below is_small 90 ≡ true
unfolding tangents is_small
all_small = refl

pub tangent_bound : (d : ℕ) → d < 90 → slice_index tangents d ≤ 5728996
unfolding is_small
tangent_bound d h = let e = passes_at is_small 90 all_small d h in grind (arith, nat_tests)

-- each is below the next
is_below_next : ℕ → Bool
is_below_next d = nat_lt (slice_index tangents d) (slice_index tangents (d + 1))

all_below_next : passes_below is_below_next 89 ≡ true
unfolding tangents is_below_next
all_below_next = refl

below_next : (d : ℕ) → d < 89 → slice_index tangents d < slice_index tangents (d + 1)
unfolding is_below_next
below_next d h = let e = passes_at is_below_next 89 all_below_next d h in grind (arith, nat_tests)

pub tangents_rise : IsStrictlyIncreasing tangents
unfolding tangents
tangents_rise d h = below_next d (omega arith)
