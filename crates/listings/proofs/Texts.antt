-- The texts of members, one after another, and what a sink in memory took of one text.
use Rattle.std.specs.Prelude.{ℕ, zero, suc, ◌+◌, ◌≡◌, ◌<◌, List, [], ◌∷◌, ◌++◌, length, take, get_or, Some, None}
use Rattle.std.specs.List.{concat}
use Rattle.std.proofs.Common.{refl, sym, ap, ◌∙◌, arith, append_assoc, add-zero, add-one}
use Rattle.std.proofs.lemmas.List.{append-nil}
use Rattle.sinks.specs.Portions.{KnownPortions, Portions}
use Rattle.listings.specs.Listing.{numbered}

-- one member more
numbered_more : {A : Type 0} (text : ℕ → A → List ℕ) (first : ℕ) (xs : List A) (n : ℕ) (x : A) → n < length xs →
    x ≡ get_or xs n x
    → numbered text first (take (suc n) xs) ≡ numbered text first (take n xs) ++ text (first + n) x
numbered_more text first [] n x within is = absurd (omega (arith, within))
numbered_more text first (y ∷ xs) zero x within is =
    append-nil (text first y) ∙ ap (text first) (sym is) ∙ ap (λ (k : ℕ). text k x) (sym (add-zero first))
numbered_more text first (y ∷ xs) (suc n) x within is =
    ap (λ (rest : List ℕ). text first y ++ rest) (numbered_more text (first + 1) xs n x (omega (arith, within)) is)
    ∙ sym (append_assoc (text first y) (numbered text (first + 1) (take n xs)) (text (first + 1 + n) x))
    ∙ ap (λ (k : ℕ). (text first y ++ numbered text (first + 1) (take n xs)) ++ text k x) (omega arith)

-- the first members after other bytes, with one member more
pub numbered_then : {A : Type 0} (text : ℕ → A → List ℕ) (before : List ℕ) (xs : List A) (n : ℕ) (x : A) →
    n < length xs → x ≡ get_or xs n x
    → before ++ numbered text 0 (take (n + 1) xs) ≡ (before ++ numbered text 0 (take n xs)) ++ text n x
numbered_then text before xs n x within is =
    ap (λ (k : ℕ). before ++ numbered text 0 (take k xs)) (add-one n)
    ∙ ap (λ (bytes : List ℕ). before ++ bytes) (numbered_more text 0 xs n x within is)
    ∙ ap (λ (k : ℕ). before ++ (numbered text 0 (take n xs) ++ text k x)) (omega arith)
    ∙ sym (append_assoc before (numbered text 0 (take n xs)) (text n x))

abbrev portions_of : Portions → List (List ℕ)
portions_of None = []
portions_of (Some taken) = taken.portions

-- a sink whose portions are known, and that had taken nothing, took this text
pub all_taken : (new after : KnownPortions) (portions : List (List ℕ)) (bytes : List ℕ) → new.portions ≡ []
    → Some after ≡ Some (record new { portions = new.portions ++ portions }) → concat portions ≡ bytes →
    concat after.portions ≡ bytes
all_taken new after portions bytes none taken joined =
    ap concat (ap portions_of taken ∙ ap (λ (first : List (List ℕ)). first ++ portions) none) ∙ joined

same_get : {A : Type 0} (xs : List A) (n : ℕ) (d : A) → n < length xs → get_or xs n d ≡ get_or xs n (get_or xs n d)
same_get [] n d within = absurd (omega (arith, within))
same_get (x ∷ xs) zero d within = refl
same_get (x ∷ xs) (suc n) d within = same_get xs n d (omega (arith, within))

-- the same of the member that is there
pub numbered_get : {A : Type 0} (text : ℕ → A → List ℕ) (before : List ℕ) (xs : List A) (n : ℕ) (d : A) →
    n < length xs
    → before ++ numbered text 0 (take (n + 1) xs) ≡ (before ++ numbered text 0 (take n xs)) ++ text n (get_or xs n d)
numbered_get text before xs n d within =
    numbered_then text before xs n (get_or xs n d) within (same_get xs n d within)
