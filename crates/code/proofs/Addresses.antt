-- Addresses that are open are in a list with the last opened at its end.
use Rattle.std.specs.Prelude.{ℕ, suc, ◌-◌, ◌≡◌, ◌<◌, List, [], ◌∷◌, ◌++◌, length, take, reverse, slice_get, get_or, Option, unwrap_or}
use Rattle.std.proofs.Common.{refl, sym, ap, ◌∙◌, arith}
use Rattle.std.proofs.lemmas.List.{reverse-append, length-reverse}
use Rattle.std.proofs.lemmas.Option.{slice_get-get_or}
use Rattle.std.proofs.Math.Seq.{take-suc, take-length}
use Rattle.code.specs.Making.{last_opened, others_opened}

pub count_is : (xs : List ℕ) → length (reverse xs) ≡ length xs
count_is xs = length-reverse xs

-- one more address
pub opened_is : (xs : List ℕ) (a : ℕ) → reverse (xs ++ a ∷ []) ≡ a ∷ reverse xs
opened_is xs a = reverse-append xs (a ∷ [])

-- a list, and its last member apart
split_last : (xs : List ℕ) → 0 < length xs → xs ≡ take (length xs - 1) xs ++ get_or xs (length xs - 1) 0 ∷ []
split_last xs h =
    let n = length xs - 1 in
    let inside : n < length xs = omega (arith, h) in
    let whole : suc n ≡ length xs = omega (arith, h) in
    sym (take-length xs) ∙ ap (λ (k : ℕ). take k xs) (sym whole) ∙ take-suc xs n 0 inside

turned : (xs : List ℕ) → 0 < length xs → reverse xs ≡ get_or xs (length xs - 1) 0 ∷ reverse (take (length xs - 1) xs)
turned xs h =
    ap (λ (l : List ℕ). reverse l) (split_last xs h) ∙ opened_is (take (length xs - 1) xs) (get_or xs (length xs - 1) 0)

-- the address that was opened last
pub first_is : (xs : List ℕ) → unwrap_or (slice_get xs (length xs - 1)) 0 ≡ last_opened (reverse xs)
first_is [] = refl
first_is (x ∷ xs) =
    let some : 0 < length (x ∷ xs) = omega arith in
    let inside : length (x ∷ xs) - 1 < length (x ∷ xs) = omega arith in
    ap (λ (o : Option ℕ). unwrap_or o 0) (slice_get-get_or (x ∷ xs) (length (x ∷ xs) - 1) 0 inside)
    ∙ sym (ap last_opened (turned (x ∷ xs) some))

-- and those before it
pub rest_is : (xs : List ℕ) → reverse (take (length xs - 1) xs) ≡ others_opened (reverse xs)
rest_is [] = refl
rest_is (x ∷ xs) = let some : 0 < length (x ∷ xs) = omega arith in sym (ap others_opened (turned (x ∷ xs) some))
