-- The first cycle later than one and the last one before one, found by going through a match from its begin.
use Rattle.std.proofs.Common.{◌≡◌, ◌⊎◌, ℕ, ◌+◌, ◌<◌, ◌≤◌, Bool, true, false, Option, Some, None, inl, inr, refl, subst, arith}
use Rattle.std.specs.Prelude.{◌&&◌, if◌then◌else◌, is_some, nat_lt}
use Rattle.std.specs.Option.{option_or}
use Rattle.std.proofs.lemmas.Bool.{cases_Bool, cases_eq, false≢true}
use Rattle.std.proofs.lemmas.Bool.Decides.{nat_tests}
use Rattle.watching.specs.Played.{EndsAt}
use Rattle.watching.specs.declared.games.PlayEnd.{PlayEnd}
use Rattle.watching.specs.Searches.{IsFound, IsLast, IsNext}

-- nothing was found in n cycles, in those later than one
abbrev pub NoneIn : (ℕ → Type 0) → (after count : ℕ) → Type 0
NoneIn H after count = (n : ℕ) → after ≤ n → n < count → H n → ⊥

-- nor in one cycle more, if it doesn't happen there or isn't later than that one
pub none_more : (H : ℕ → Type 0) (after count : ℕ) → NoneIn H after count → (after ≤ count → H count → ⊥)
    → NoneIn H after (count + 1)
none_more H after count none here n behind within happens = elim (cases_eq n count) [
  | inl same ↦ here (omega (arith, behind, same)) (subst H same happens)
  | inr other ↦ none n behind (omega (arith, within, other)) happens
]

-- the match is over
pub next_none : (H : ℕ → Type 0) (after count last : ℕ) → NoneIn H after count → last ≤ count → IsNext H after last None
next_none H after count last none over n behind within happens =
    none n behind (omega (arith, over, within)) happens

pub found_none : (H : ℕ → Type 0) (n after : ℕ) (found : Option ℕ) → IsFound H n after found
    → is_some found ≡ false → NoneIn H after n → NoneIn H after (n + 1)
found_none H n after None is nothing none = none_more H after n none is
found_none H n after (Some cycle) is nothing none = absurd (cc)

-- what one cycle finds
pub found_so : (H : ℕ → Type 0) (n cycle after : ℕ) (happens : Bool) → cycle ≡ n + 1 → (happens ≡ true → H n)
    → (H n → happens ≡ true) → IsFound H n after (if happens && nat_lt after cycle then Some cycle else None)
found_so H n cycle after true is so only = elim (cases_Bool (nat_lt after cycle)) [
  | inl behind ↦ rw behind (is, grind (arith, nat_tests), so refl)
  | inr before ↦
      let late : cycle ≤ after = grind (arith, nat_tests) in
      rw before (λ within happens. absurd (omega (arith, is, late, within)))
]
found_so H n cycle after false is so only = λ within happens. false≢true (only happens)

-- no more cycles are played than a match has
pub ends_most : (last : ℕ) (ending : PlayEnd) → EndsAt last ending → ending.cycles ≤ last
ends_most last ending ends = elim (cases_Bool ending.is_over) [
  | inl over ↦ let there = ends.0 over in omega (arith, there)
  | inr on ↦ let before = ends.1 on in omega (arith, before)
]

-- the last one of n cycles
abbrev pub LastOf : (ℕ → Type 0) → ℕ → Option ℕ → Type 0
LastOf H count found = IsLast H (count + 1) count found

pub last_none : (H : ℕ → Type 0) → LastOf H 0 None
last_none H n below within happens = absurd (omega (arith, within))

pub last_here : (H : ℕ → Type 0) (count cycle : ℕ) → cycle ≡ count + 1 → H count → LastOf H (count + 1) (Some cycle)
last_here H count cycle is happens = (
  count,
  is,
  omega (arith, is),
  omega arith,
  happens,
  λ n behind below within here. absurd (omega (arith, behind, within)),
)

pub last_kept : (H : ℕ → Type 0) (count : ℕ) (found : Option ℕ) → (H count → ⊥) → LastOf H count found
    → LastOf H (count + 1) found
last_kept H count None not last = λ n below within happens. elim (cases_eq n count) [
  | inl same ↦ not (subst H same happens)
  | inr other ↦ last n (omega (arith, within, other)) (omega (arith, within, other)) happens
]
last_kept H count (Some cycle) not (before, is, below, within, happens, none) = (
  before,
  is,
  omega (arith, below),
  omega (arith, within),
  happens,
  λ n behind under inside here. elim (cases_eq n
      count) [
        | inl same ↦ not (subst H same here)
        | inr other ↦ none n behind (omega (arith, inside, other)) (omega (arith, inside, other)) here
      ],
)

pub last_step : (H : ℕ → Type 0) (n : ℕ) (next found : Option ℕ) → IsFound H n 0 next → LastOf H n found
    → LastOf H (n + 1) (option_or next found)
last_step H n None found is last = last_kept H n found (is (omega arith)) last
last_step H n (Some cycle) found (here, behind, happens) last = last_here H n cycle here happens

-- so it is of the match, once all cycles before one were played, or all cycles there are
pub last_found : (H : ℕ → Type 0) (count limit last : ℕ) (found : Option ℕ) → LastOf H count found → count ≤ last
    → (count ≡ 0) ⊎ (count < limit) → ((n : ℕ) → n + 1 < limit → n < last → n < count) → IsLast H limit last found
last_found H count limit last None of most less all = λ n below within happens.
    let inside = all n below within in
    of n (omega (arith, inside)) inside happens
last_found H count limit last (Some cycle) (before, is, below, within, happens, none) most less all = (
  before,
  is,
  elim less [
    | inl empty ↦ absurd (omega (arith, within, empty))
    | inr some ↦ omega (arith, below, some)
  ],
  omega (arith, within, most),
  happens,
  λ n behind under inside here. let there = all n under inside in none n behind (omega (arith, there)) there here,
)
