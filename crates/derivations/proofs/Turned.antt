-- Lists whose last member is the next: their reverse has it first.
use Rattle.std.proofs.Common.{◌≡◌, ℕ, suc, ◌<◌, List, [], ◌∷◌, ◌++◌, refl, sym, ap, ◌∙◌, arith, length, take, drop}
use Rattle.std.specs.Prelude.{◌-◌, reverse, Option, Some, None, slice_get, get_or}
use Rattle.std.proofs.lemmas.List.{reverse-append}
use Rattle.std.proofs.lemmas.Option.{slice_get-get_or, slice_get_within, get_or_from_slice_get}
use Rattle.std.proofs.Math.Seq.{take-suc, take-length}

-- one more
pub pushed : {A : Type 0} (xs : List A) (x : A) → reverse (xs ++ x ∷ []) ≡ x ∷ reverse xs
pushed xs x = reverse-append xs (x ∷ [])

-- a list, and its last member apart
parted : {A : Type 0} (xs : List A) (x : A) → slice_get xs (length xs - 1) ≡ Some x →
    xs ≡ take (length xs - 1) xs ++ x ∷ []
parted {A} xs x e =
    let n : ℕ = length xs - 1 in
    let inside : n < length xs = slice_get_within xs n x e in
    let whole : suc n ≡ length xs = omega (arith, inside) in
    let same : get_or xs n x ≡ x = get_or_from_slice_get xs n x x e in
    sym (take-length xs) ∙ ap (λ (k : ℕ). take k xs) (sym whole) ∙ take-suc xs n x inside
    ∙ ap (λ (y : A). take n xs ++ y ∷ []) same

-- the last member, and those before it
pub turned : {A : Type 0} (xs : List A) (x : A) → slice_get xs (length xs - 1) ≡ Some x →
    reverse xs ≡ x ∷ reverse (take (length xs - 1) xs)
turned {A} xs x e =
    ap (λ (l : List A). reverse l) (parted xs x e) ∙ pushed (take (length xs - 1) xs) x

dropped_by : {A : Type 0} (xs : List A) (o : Option A) → slice_get xs (length xs - 1) ≡ o →
    reverse (take (length xs - 1) xs) ≡ drop 1 (reverse xs)
dropped_by {A} [] o e = refl
dropped_by {A} (y ∷ ys) (Some x) e = sym (ap (λ (l : List A). drop 1 l) (turned (y ∷ ys) x e))
dropped_by {A} (y ∷ ys) None e = absurd (
    let inside : length (y ∷ ys) - 1 < length (y ∷ ys) = omega arith in
    let some : slice_get (y ∷ ys) (length (y ∷ ys) - 1) ≡ Some (get_or (y ∷ ys) (length (y ∷ ys) - 1) y) =
    slice_get-get_or (y ∷ ys) (length (y ∷ ys) - 1) y inside in
    cc)

-- those before the last
pub dropped : {A : Type 0} (xs : List A) → reverse (take (length xs - 1) xs) ≡ drop 1 (reverse xs)
dropped xs = dropped_by xs (slice_get xs (length xs - 1)) refl

-- there is none
pub turned_none : {A : Type 0} (xs : List A) → slice_get xs (length xs - 1) ≡ None → xs ≡ []
turned_none [] e = refl
turned_none (y ∷ ys) e = absurd (
    let inside : length (y ∷ ys) - 1 < length (y ∷ ys) = omega arith in
    let some : slice_get (y ∷ ys) (length (y ∷ ys) - 1) ≡ Some (get_or (y ∷ ys) (length (y ∷ ys) - 1) y) =
    slice_get-get_or (y ∷ ys) (length (y ∷ ys) - 1) y inside in
    cc)
