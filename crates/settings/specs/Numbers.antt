-- The number of a value of the command line.
use Rattle.std.specs.Prelude.{ℕ, List, Option, Some, None, length, nat_le, if◌then◌else◌, ◌&&◌}
use Rattle.std.specs.Str.{all_ascii_digits}
use Rattle.std.specs.Str.Parse.{digits_value}

-- a value is one or more ASCII digits, and its number is within the limits
abbrev pub value_number : ℕ → ℕ → List ℕ → Option ℕ
value_number least most text =
    if nat_le 1 (length text) && all_ascii_digits text && nat_le least (digits_value 10 text)
    && nat_le (digits_value 10 text) most
    then Some (digits_value 10 text) else None
