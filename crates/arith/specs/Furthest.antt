-- Bearings by comparing reaches: what a bearing is among all degrees, and which of two degrees leads.
use Rattle.std.specs.Prelude.{ℕ, ◌<◌, nat_lt, Bool, if◌then◌else◌, List, ℤ, ◌≤ℤ◌, ◌<ℤ◌, int_lt, int_le}
use Rattle.std.specs.List.{All, Contains}
use Rattle.arith.specs.Bearing.{projection_of}

-- the least degree of the round at which the reach is greatest
pub record IsBearing (dx dy : ℤ) (degree : ℕ) : Type 0 where
  pub on_the_round : degree < 360
  pub greatest : (other : ℕ) → other < 360 → projection_of dx dy other ≤ℤ projection_of dx dy degree
  pub least : (other : ℕ) → other < degree → projection_of dx dy other <ℤ projection_of dx dy degree

-- the greatest of some numbers
pub record IsGreatest (numbers : List ℤ) (most : ℤ) : Type 0 where
  pub reached : Contains numbers most
  pub bound : All (λ number. number ≤ℤ most) numbers

-- the point reaches further at one degree than at another; of equals the lesser degree comes first
unfoldable pub leads : ℤ → ℤ → ℕ → ℕ → Bool
leads dx dy degree other =
    if nat_lt degree other then int_le (projection_of dx dy other) (projection_of dx dy degree)
    else int_lt (projection_of dx dy other) (projection_of dx dy degree)
