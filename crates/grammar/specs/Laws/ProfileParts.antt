-- A profile of its parts.
use Rattle.std.specs.Prelude.{ℕ, Bool}
use Rattle.grammar.specs.Profile.{Profile}

-- the profile of this many instructions, words and frames, and this choice
abbrev pub profile_of : ℕ → ℕ → ℕ → Bool → Profile
profile_of instructions words frames short_circuit =
    record { instructions = instructions; words = words; frames = frames; short_circuit = short_circuit }
