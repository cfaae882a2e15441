-- The line of a diagnostic.
use Rattle.std.specs.Prelude.{ℕ, List, ◌++◌, codes, decimal}

-- `{name}:{line}: {text}`, with its LF
abbrev pub diagnostic_line : List ℕ → ℕ → List ℕ → List ℕ
diagnostic_line name line text = name ++ codes ":" ++ decimal line ++ codes ": " ++ text ++ codes "\n"
