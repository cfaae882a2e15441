-- The least round number that isn't too small.
use Rattle.std.proofs.Common.{◌≡◌, ℕ, zero, suc, ◌+◌, ◌*◌, ◌/◌, ◌^◌, ◌<◌, ◌≤◌, refl, ap, arith, inl, inr}
use Rattle.std.proofs.lemmas.Bool.{cases_eq, cases_lt}
use Rattle.std.proofs.Math.Nat.{div-lt_iff_lt-mul}
use Rattle.watching.specs.Rounds.{AreTooMany, IsFirstOf, IsRound, IsTooSmall, round_number, times}

-- round numbers grow
grows : (k : ℕ) → round_number k < round_number (suc k)
grows zero = omega arith
grows (suc zero) = omega arith
grows (suc (suc zero)) = omega arith
grows (suc (suc (suc k))) = let rest = grows k in omega (arith, rest)

pub in_order : (j k : ℕ) → j ≤ k → round_number j ≤ round_number k
in_order j zero within = let same : j ≡ 0 = omega (arith, within) in rw same (omega arith)
in_order j (suc k) within = elim (cases_eq j (suc k)) [
  | inl same ↦ rw same (omega arith)
  | inr less ↦
      let rest = in_order j k (omega (arith, within, less)) in
      let more = grows k in
      omega (arith, rest, more)
]

-- the powers of ten are each third of them, and twice and five times as much come between
next_three : (j : ℕ) → 3 * (suc j) ≡ suc (suc (suc (3 * j)))
next_three j = omega arith

pub ten_times : (j : ℕ) → round_number (3 * (j + 1)) ≡ 10 * round_number (3 * j)
ten_times j = let next : 3 * (j + 1) ≡ suc (suc (suc (3 * j))) = omega arith in ap round_number next

pub twice : (j : ℕ) → round_number (suc (3 * j)) ≡ 2 * round_number (3 * j)
twice zero = refl
twice (suc j) = let rest = twice j in rw (next_three j) (omega (arith, rest))

pub five_times : (j : ℕ) → round_number (suc (suc (3 * j))) ≡ 5 * round_number (3 * j)
five_times zero = refl
five_times (suc j) = let rest = five_times j in rw (next_three j) (omega (arith, rest))

-- up to the tenth they fit in 32 bits
pub fits : (j : ℕ) → j ≤ 9 → round_number (3 * j) ≤ 1000000000
fits j within = in_order (3 * j) 27 (omega (arith, within))

-- all that come before a power of ten are too small
abbrev pub AreSmall : (cycles most n : ℕ) → Type 0
AreSmall cycles most n = (k : ℕ) → k < n → IsTooSmall cycles most (round_number k)

-- three more are, in a number of cycles of 32 bits
pub three_more : (cycles most power j : ℕ) → 1 ≤ most → cycles < 2 ^ 32 → j ≤ 9 → power ≡ round_number (3 * j)
    → AreSmall cycles most (3 * j) → AreTooMany power cycles most → AreSmall cycles most (3 * (j + 1))
three_more cycles most power j some bits within is small (one, two, five) k below = elim (cases_lt k (3 * j)) [
  | inl before ↦ small k before
  | inr behind ↦ elim (cases_eq k (3 * j)) [
    | inl same ↦ rw (same, ← is) one
    | inr other ↦ elim (cases_eq k (suc (3 * j))) [
      | inl same ↦
          let least = fits j within in
          let number : times power 2 ≡ round_number (suc (3 * j)) = omega (arith, twice j, is, least) in
          rw (same, ← number) two
      | inr last ↦
          let same : k ≡ suc (suc (3 * j)) = omega (arith, below, behind, other, last) in
          elim (cases_lt (power * 5) 4294967296) [
            | inl low ↦
                let number : times power 5 ≡ round_number (suc (suc (3 * j))) =
                omega (arith, five_times j, is, low) in
                rw (same, ← number) five
            | inr high ↦
                let top : times power 5 ≡ 4294967295 = omega (arith, high) in
                let none : IsTooSmall cycles most 4294967295 = rw top at five in
                absurd (omega (arith, none, some, bits))
          ]
    ]
  ]
]

-- so the first of three that isn't too small is the least of all
small_no_more : (cycles most n k : ℕ) → k ≡ n → IsTooSmall cycles most (round_number n)
    → cycles / round_number k ≤ most → ⊥
small_no_more cycles most n k same small few =
    let here : IsTooSmall cycles most (round_number k) = rw same small in omega (arith, here, few)

first_behind : (cycles most power spacing j k : ℕ) → j ≤ 9 → power ≡ round_number (3 * j) → 3 * j ≤ k
    → cycles / round_number k ≤ most → IsFirstOf power cycles most spacing → spacing ≤ round_number k
first_behind cycles most power spacing j k within is behind few (inl one) =
    let grown = in_order (3 * j) k behind in omega (arith, grown, is, one)
first_behind cycles most power spacing j k within is behind few (inr (inl (one, two))) = elim (cases_eq k (3 * j)) [
  | inl same ↦ absurd (small_no_more cycles most (3 * j) k same (rw (← is) one) few)
  | inr other ↦
      let grown = in_order (suc (3 * j)) k (omega (arith, behind, other)) in
      omega (arith, grown, twice j, is, two)
]
first_behind cycles most power spacing j k within is behind few (inr (inr (one, two, five))) =
    elim (cases_eq k (3 * j)) [
      | inl same ↦ absurd (small_no_more cycles most (3 * j) k same (rw (← is) one) few)
      | inr other ↦ elim (cases_eq k (suc (3 * j))) [
        | inl same ↦
            let number : times power 2 ≡ round_number (suc (3 * j)) = omega (arith, twice j, is, fits j within) in
            absurd (small_no_more cycles most (suc (3 * j)) k same (rw (← number) two) few)
        | inr last ↦
            let grown = in_order (suc (suc (3 * j))) k (omega (arith, behind, other, last)) in
            omega (arith, grown, five_times j, is, five)
      ]
    ]

pub least_of_all : (cycles most power spacing j : ℕ) → j ≤ 9 → power ≡ round_number (3 * j)
    → AreSmall cycles most (3 * j) → IsFirstOf power cycles most spacing → (k : ℕ) → cycles / round_number k ≤ most
    → spacing ≤ round_number k
least_of_all cycles most power spacing j within is small first k few = elim (cases_lt k (3 * j)) [
  | inl before ↦ let here = small k before in absurd (omega (arith, here, few))
  | inr behind ↦ first_behind cycles most power spacing j k within is behind few first
]

-- it is a round number, in the cycles that a match may have
pub is_round : (cycles most power spacing j : ℕ) → 1 ≤ most → cycles ≤ 1000000000 → j ≤ 9 → power ≡ round_number (3 * j)
    → IsFirstOf power cycles most spacing → IsRound spacing
is_round cycles most power spacing j some short within is (inl one) = (3 * j, omega (arith, one, is))
is_round cycles most power spacing j some short within is (inr (inl (one, two))) =
    let least = fits j within in (suc (3 * j), omega (arith, twice j, is, two, least))
is_round cycles most power spacing j some short within is (inr (inr (one, two, five))) =
    elim (cases_lt (power * 5) 4294967296) [
      | inl low ↦ (suc (suc (3 * j)), omega (arith, five_times j, is, five, low))
      | inr high ↦
          let once : cycles / power < 2 = (div-lt_iff_lt-mul (omega (arith, high))).1 (omega (arith, high, short)) in
          absurd (omega (arith, one, once, some))
    ]

-- and past the tenth power no number of 32 bits is greater
pub none_left : (cycles most spacing : ℕ) → spacing < 2 ^ 32 → AreSmall cycles most 30 → (k : ℕ)
    → cycles / round_number k ≤ most → spacing ≤ round_number k
none_left cycles most spacing bits small k few = elim (cases_lt k 30) [
  | inl before ↦ let here = small k before in absurd (omega (arith, here, few))
  | inr behind ↦ let grown = in_order 30 k behind in omega (arith, grown, bits)
]
