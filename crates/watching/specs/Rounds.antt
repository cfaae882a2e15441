-- Round numbers: 1, 2, 5, 10, 20, 50 and so on.
use Rattle.std.specs.Prelude.{◌≡◌, ◌⊎◌, ◌<◌, ◌*◌, ◌-◌, ◌/◌, ◌^◌, ℕ, zero, suc, min}

abbrev pub round_number : ℕ → ℕ
round_number zero = 1
round_number (suc zero) = 2
round_number (suc (suc zero)) = 5
round_number (suc (suc (suc k))) = 10 * round_number k

abbrev pub IsRound : ℕ → Type 0
IsRound n = (k : ℕ) × (n ≡ round_number k)

-- a multiple, in 32 bits
abbrev pub times : (power n : ℕ) → ℕ
times power n = min (power * n) (2 ^ 32 - 1)

-- marks at the multiples of a number would be too many
abbrev pub IsTooSmall : (cycles most n : ℕ) → Type 0
IsTooSmall cycles most n = most < cycles / n

-- a number is the first of a power of ten, twice and five times as much that isn't too small
abbrev pub IsFirstOf : (power cycles most spacing : ℕ) → Type 0
IsFirstOf power cycles most spacing = (spacing ≡ power)
    ⊎ ((IsTooSmall cycles most power × (spacing ≡ times power 2))
    ⊎ (IsTooSmall cycles most power × IsTooSmall cycles most (times power 2) × (spacing ≡ times power 5)))

-- all three are
abbrev pub AreTooMany : (power cycles most : ℕ) → Type 0
AreTooMany power cycles most =
    IsTooSmall cycles most power × IsTooSmall cycles most (times power 2) × IsTooSmall cycles most (times power 5)
