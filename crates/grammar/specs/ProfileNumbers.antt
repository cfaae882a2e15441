-- The language profiles by their numbers, from 1.
use Rattle.std.specs.Prelude.{ℕ, if◌then◌else◌, ◌==◌, ◌≡◌, ◌⊎◌, false, true}
use Rattle.grammar.specs.Profile.{Profile}

unfoldable pub first_profile : Profile
first_profile = record { instructions = 2000; words = 500; frames = 64; short_circuit = false }

unfoldable pub second_profile : Profile
second_profile = record { instructions = 4000; words = 1000; frames = 128; short_circuit = true }

-- one of the two that a program can have
abbrev pub IsProfile : Profile → Type 0
IsProfile p = (p ≡ first_profile) ⊎ (p ≡ second_profile)

-- the greatest number of a profile; the least is 1
abbrev pub most_profile : ℕ
most_profile = 2

-- the profile of a number
abbrev pub profile_numbered : ℕ → Profile
profile_numbered number = if number == 1 then first_profile else second_profile
