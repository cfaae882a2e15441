-- The whole square root of a number's size.
use Rattle.std.specs.Prelude.{ℕ, zero, suc, ◌+◌, ◌*◌, ◌/◌, nat_le, if◌then◌else◌, ℤ, pos, unsigned_abs}

-- The root of a quarter, doubled, and one more if that square still fits.
-- It is right for numbers below 4 to the power `digits`.
unfoldable pub root_by_quarters : ℕ → ℕ → ℕ
root_by_quarters zero n = 0
root_by_quarters (suc digits) n =
    let twice = 2 * root_by_quarters digits (n / 4) in
    if nat_le ((twice + 1) * (twice + 1)) n then twice + 1 else twice

unfoldable pub root_of : ℤ → ℤ
root_of a = pos (root_by_quarters 16 (unsigned_abs a))
