-- What a run is asked to do.
use Rattle.std.specs.Prelude.{ℕ, List}
use Rattle.grammar.specs.Profile.{Profile}
use Rattle.settings.specs.declared.settings.Mode.{Mode}

pub record Settings : Type 0 where
  pub mode : Mode
  pub matches : ℕ
  pub limit : ℕ  -- the most cycles of a match
  pub seed : ℕ
  pub profile : Profile
  pub first : ℕ  -- the number of the first match
  pub file_words : List (List ℕ)
