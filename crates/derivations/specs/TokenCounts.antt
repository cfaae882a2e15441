-- How many tokens of a source are found without asking for memory.
use Rattle.std.specs.Prelude.{ℕ, ◌<◌, List, length}
use Rattle.tokens.specs.Tokens.{tokens}

-- at most so many, the last one included
abbrev pub most_located : ℕ
most_located = 16384

-- a source has more
abbrev pub HasMoreTokens : (bytes : List ℕ) → Type 0
HasMoreTokens bytes = most_located < length (tokens bytes)
