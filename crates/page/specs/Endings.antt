-- How a call ends.
use Rattle.std.specs.Prelude.{◌≡◌, ℕ}
use Rattle.page.specs.declared.endings.Ending.{Ending}
use Rattle.page.specs.declared.endings.Ending.TheVariants.{Done, Faulty, Refused, Full, GoesOn}

-- the number that stands for an ending
abbrev pub code_of : Ending → ℕ
code_of Done = 0
code_of Faulty = 1
code_of Refused = 2
code_of Full = 4
code_of GoesOn = 6

-- A code is that of an ending of which this is true. Two endings never have one code.
pub record EndsWith (Says : Ending → Type 0) (code : ℕ) : Type 0 where
  pub ending : Ending
  pub is : code ≡ code_of ending
  pub says : Says ending
