-- How a line shows a character.
use Rattle.std.specs.Prelude.{ℕ, Bool, nat_lt, nat_le, ◌&&◌, ◌||◌, if◌then◌else◌}

-- control characters: those below the blank, and from DEL to the last of the second block
abbrev pub is_control : ℕ → Bool
is_control c = nat_lt c 32 || (nat_le 127 c && nat_lt c 160)

-- a question mark stands for each
abbrev pub visible : ℕ → ℕ
visible c = if is_control c then 63 else c
