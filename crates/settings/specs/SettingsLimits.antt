-- The limits of what a run may be asked to do. Each least number is 1, but a seed may be 0.
use Rattle.std.specs.Prelude.{ℕ}

abbrev pub most_matches : ℕ
most_matches = 1000000

abbrev pub most_cycles : ℕ
most_cycles = 1000000000

abbrev pub most_seed : ℕ
most_seed = 18446744073709551615

abbrev pub most_first_match : ℕ
most_first_match = 1000000

abbrev pub most_files : ℕ
most_files = 4
