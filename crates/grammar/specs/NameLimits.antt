-- How many names a source may have, and how many nested constructs at once.
use Rattle.std.specs.Prelude.{ℕ}

-- the most externals, the most variables of a function, and the most functions
abbrev pub most_names : ℕ
most_names = 64

-- the most constructs that are nested in one another
unfoldable pub most_nested : ℕ
most_nested = 64
