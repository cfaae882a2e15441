-- A degree differs from its number by whole rounds.
use Rattle.std.specs.Prelude.{◌≡◌, ℕ, ◌<◌, ℤ, pos, ◌+ℤ◌, ◌*ℤ◌}

-- the degree is on the round, and whole rounds lead from it to the number
pub record IsDegreeOf (n : ℤ) (degree : ℕ) : Type 0 where
  pub on_the_round : degree < 360
  pub whole_rounds : (rounds : ℤ) × (n ≡ pos degree +ℤ rounds *ℤ pos 360)
