-- The whole square root of a number's size, as what it is.
use Rattle.std.specs.Prelude.{◌≡◌, ℕ, ◌*◌, ◌≤◌, ℤ, pos, unsigned_abs}

-- the greatest n whose square is at most |a|
pub record IsRoot (a root : ℤ) : Type 0 where
  pub size : ℕ
  pub natural : root ≡ pos size
  pub fits : size * size ≤ unsigned_abs a
  pub greatest : (n : ℕ) → n * n ≤ unsigned_abs a → n ≤ size
