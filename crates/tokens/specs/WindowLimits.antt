-- How much of a source is read at a time, and at most.
use Rattle.std.specs.Prelude.{ℕ}

-- the bytes of the window through which a source is read
abbrev pub window_bytes : ℕ
window_bytes = 4096

-- the most tokens of a source: the two that a cursor holds, and one that ends at each byte
abbrev pub most_tokens : ℕ
most_tokens = 1048578

-- the most bytes that are taken of a source: as many as it may have, and one that shows it to be too long
abbrev pub most_taken_bytes : ℕ
most_taken_bytes = 1048577
