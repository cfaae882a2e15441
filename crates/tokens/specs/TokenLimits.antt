-- The limits of a source and of a name.
use Rattle.std.specs.Prelude.{ℕ}

-- the most bytes of a name
abbrev pub most_name_bytes : ℕ
most_name_bytes = 31

-- the most bytes of a source
abbrev pub most_source_bytes : ℕ
most_source_bytes = 1048576
