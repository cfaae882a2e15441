-- Lines of text.
use Rattle.std.specs.Prelude.{ℕ, List, [], ◌∷◌, ◌++◌, map}
use Rattle.std.specs.List.{concat}

-- a line's bytes with its LF
abbrev pub ended_line : List ℕ → List ℕ
ended_line line = line ++ 10 ∷ []

-- lines, each ended
abbrev pub lines_text : List (List ℕ) → List ℕ
lines_text lines = concat (map ended_line lines)
