-- What the library's reading of a value says of its number.
use Rattle.std.proofs.Common.{◌≡◌, ℕ, ◌<◌, ◌≤◌, ◌^◌, ◌≢◌, ◌==◌, List, length, get_or, Some, None, Result, Ok, Err, Bool, true, false, refl, inl, inr, arith}
use Rattle.std.specs.Result.{OkIff}
use Rattle.std.specs.Str.{all_ascii_digits}
use Rattle.std.specs.Str.Parse.{digits_value, ParsesUnsigned}
use Rattle.std.proofs.lemmas.Str.Parse.{IsNumeralModel, numerals_by_value, tells_all_ascii_digits, parse_plain}
use Rattle.std.proofs.lemmas.Bool.{cases_lt}
use Rattle.std.proofs.lemmas.Bool.Decides.{nat_tests}
use Rattle.settings.specs.Numbers.{value_number}

own : IsNumeralModel (λ ds. all_ascii_digits ds ≡ true) (digits_value 10)
own = numerals_by_value (λ ds. all_ascii_digits ds ≡ true) tells_all_ascii_digits

abbrev Reads : {E : Type 0} → List ℕ → Result ℕ E → Type 0
Reads text r =
    OkIff r ((all_ascii_digits text ≡ true) × (0 < length text) × (digits_value 10 text < 2 ^ 64))
    (digits_value 10 text)

no_plus : (n : ℕ) → false ≡ (n == 43) → n ≢ 43
no_plus n sign same = grind (arith, nat_tests)

-- a text that the library reads has its number, if that is within the limits
pub number_within : {E : Type 0} (text : List ℕ) (r : Result ℕ E) (n least most : ℕ) → ParsesUnsigned 64 10 text r
    → false ≡ (get_or text 0 0 == 43) → r ≡ Ok n → least ≤ n → n ≤ most → Some n ≡ value_number least most text
number_within {E} text r n least most reads sign is low high =
    go r (parse_plain own 64 text r reads (no_plus _ sign)) is
  where
    go : (r : Result ℕ E) → Reads text r → r ≡ Ok n → Some n ≡ value_number least most text
    go (Ok m) known same =
        let digits = known.0.0 in
        let some = known.0.1 in
        let value = known.1 in
        grind (arith, nat_tests)
    go (Err e) known same = cc

-- a text that the library refuses has no number of 64 bits
pub number_refused : {E : Type 0} (text : List ℕ) (r : Result ℕ E) (e : E) (least most : ℕ) →
    ParsesUnsigned 64 10 text r
    → false ≡ (get_or text 0 0 == 43) → r ≡ Err e → most < 2 ^ 64 → None ≡ value_number least most text
number_refused {E} text r e least most reads sign is fits = go r (parse_plain own 64 text r reads (no_plus _ sign)) is
  where
    refused : (digits : Bool) → all_ascii_digits text ≡ digits →
        (all_ascii_digits text ≡ true → 0 < length text → digits_value 10 text < 2 ^ 64 → ⊥)
        → None ≡ value_number least most text
    refused true is some_part_fails = elim (cases_lt 0 (length text)) [
      | inl some ↦ elim (cases_lt (digits_value 10 text) (2 ^ 64))
          [ inl small ↦ absurd (some_part_fails is some small) | inr large ↦ grind (arith, nat_tests) ]
      | inr none ↦ grind (arith, nat_tests)
    ]
    refused false is _ = grind (arith, nat_tests)

    go : (r : Result ℕ E) → Reads text r → r ≡ Err e → None ≡ value_number least most text
    go (Ok m) known same = cc
    go (Err f) known same = refused (all_ascii_digits text) refl (λ digits some small. known (digits, some, small))
