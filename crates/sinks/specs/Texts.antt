-- How texts name a file, and columns of numbers.
use Rattle.std.specs.Prelude.{ℕ, ◌-◌, List, ◌++◌, length, replicate, decimal, ◌==◌}
use Rattle.std.specs.List.{after_last}

-- how all texts name a file: the part of its word after the last `/`
abbrev pub file_name : List ℕ → List ℕ
file_name word = after_last (λ b. b == 47) word

-- a number at the right of a column of this width
abbrev pub column : ℕ → ℕ → List ℕ
column width n = replicate (width - length (decimal n)) 32 ++ decimal n
