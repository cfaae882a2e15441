-- Distinct names, and the indices of names.
use Rattle.std.proofs.Common.{◌≡◌, ℕ, zero, suc, ◌+◌, List, [], ◌∷◌, ◌++◌, refl, sym, ap, ◌∙◌, subst, Bool, true, false, arith, length, append-nil}
use Rattle.std.proofs.lemmas.Slice.Eq.{bytes_eq-Decides}
use Rattle.std.proofs.lemmas.Iterator.Adapters.{position_from-zero}
use Rattle.std.specs.List.{position_from}
use Rattle.std.specs.Prelude.{Option, Some, None, not, is_none, slice_get, if◌then◌else◌}
use Rattle.std.specs.Str.{bytes_eq}
use Rattle.grammar.specs.Scope.{number_of_name}
use Rattle.grammar_laws.specs.Numbering.{is_among, all_but, distinct}

-- Names that are tested to be the same.

pub is_same : (x y : List ℕ) → bytes_eq x y ≡ true → x ≡ y
is_same x y e = (bytes_eq-Decides x y).0 e

pub same_as : (x y : List ℕ) → x ≡ y → bytes_eq x y ≡ true
same_as x y e = (bytes_eq-Decides x y).1 e

turned : (x y : List ℕ) → bytes_eq x y ≡ bytes_eq y x
turned x y = by (bytes_eq x y) (bytes_eq y x) refl refl
  where
    by : (a b : Bool) → bytes_eq x y ≡ a → bytes_eq y x ≡ b → a ≡ b
    by true true e f = refl
    by false false e f = refl
    by true false e f = sym (same_as y x (sym (is_same x y e))) ∙ f
    by false true e f = sym e ∙ same_as x y (sym (is_same y x f))

-- Members.

among_without : (y x : List ℕ) (zs : List (List ℕ)) →
    is_among y (all_but x zs) ≡ (if bytes_eq x y then false else is_among y zs)
among_without y x [] = by (bytes_eq x y)
  where
    by : (b : Bool) → false ≡ (if b then false else false)
    by true = refl
    by false = refl
among_without y x (z ∷ zs) = by (bytes_eq x z) (bytes_eq x y) (bytes_eq y z) refl refl refl (among_without y x zs)
  where
    by : (a b c : Bool) → bytes_eq x z ≡ a → bytes_eq x y ≡ b → bytes_eq y z ≡ c →
        is_among y (all_but x zs) ≡ (if bytes_eq x y then false else is_among y zs) →
        is_among y (if a then all_but x zs else z ∷ all_but x zs) ≡
        (if b then false else (if c then true else is_among y zs))
    by true true c e f g again = again ∙ rw f refl
    by true false true e f g again =
        absurd (let no : true ≡ false = sym (same_as x y (is_same x z e ∙ sym (is_same y z g))) ∙ f in cc)
    by true false false e f g again = again ∙ rw f refl
    by false true true e f g again =
        absurd (let no : true ≡ false = sym (same_as x z (is_same x y f ∙ is_same y z g)) ∙ e in cc)
    by false true false e f g again = rw g (again ∙ rw f refl)
    by false false true e f g again = rw g refl
    by false false false e f g again = rw g (again ∙ rw f refl)

pub among_distinct : (y : List ℕ) (xs : List (List ℕ)) → is_among y (distinct xs) ≡ is_among y xs
among_distinct y [] = refl
among_distinct y (x ∷ xs) = by (bytes_eq y x) refl (among_distinct y xs)
  where
    by : (b : Bool) → bytes_eq y x ≡ b → is_among y (distinct xs) ≡ is_among y xs →
        (if b then true else is_among y (all_but x (distinct xs))) ≡ (if b then true else is_among y xs)
    by true e again = refl
    by false e again = among_without y x (distinct xs) ∙ rw (turned x y ∙ e) again

-- A name more.

all_but_last : (x : List ℕ) (zs : List (List ℕ)) (y : List ℕ) →
    all_but x (zs ++ y ∷ []) ≡ all_but x zs ++ (if bytes_eq x y then [] else y ∷ [])
all_but_last x [] y = refl
all_but_last x (z ∷ zs) y = by (bytes_eq x z) (all_but_last x zs y)
  where
    by : (b : Bool) → all_but x (zs ++ y ∷ []) ≡ all_but x zs ++ (if bytes_eq x y then [] else y ∷ []) →
        (if b then all_but x (zs ++ y ∷ []) else z ∷ all_but x (zs ++ y ∷ [])) ≡
        (if b then all_but x zs else z ∷ all_but x zs) ++ (if bytes_eq x y then [] else y ∷ [])
    by true again = again
    by false again = ap (λ names. z ∷ names) again

pub distinct_last : (xs : List (List ℕ)) (y : List ℕ) →
    distinct (xs ++ y ∷ []) ≡ (if is_among y xs then distinct xs else distinct xs ++ y ∷ [])
distinct_last [] y = refl
distinct_last (x ∷ xs) y = by (is_among y xs) (bytes_eq y x) refl refl (distinct_last xs y)
  where
    by : (a b : Bool) → is_among y xs ≡ a → bytes_eq y x ≡ b →
        distinct (xs ++ y ∷ []) ≡ (if is_among y xs then distinct xs else distinct xs ++ y ∷ []) →
        x ∷ all_but x (distinct (xs ++ y ∷ [])) ≡
        (if (if b then true else a) then x ∷ all_but x (distinct xs) else (x ∷ all_but x (distinct xs)) ++ y ∷ [])
    by true true e f again = ap (λ names. x ∷ all_but x names) (again ∙ rw e refl)
    by true false e f again = ap (λ names. x ∷ all_but x names) (again ∙ rw e refl)
    by false true e f again = ap (λ names. x ∷ all_but x names) (again ∙ rw e refl)
        ∙
        ap (λ names. x ∷ names)
        (all_but_last x (distinct xs) y ∙ rw (turned x y ∙ f) (append-nil (all_but x (distinct xs))))
    by false false e f again = ap (λ names. x ∷ all_but x names) (again ∙ rw e refl)
        ∙ ap (λ names. x ∷ names) (all_but_last x (distinct xs) y ∙ rw (turned x y ∙ f) refl)

-- Indices.

record IsPlace (name : List ℕ) (first : ℕ) (names : List (List ℕ)) (k : ℕ) : Type 0 where
  index : ℕ
  at : k ≡ first + index
  here : slice_get names index ≡ Some name

abbrev Found : List ℕ → ℕ → List (List ℕ) → Option ℕ → Type 0
Found name first names (Some k) = IsPlace name first names k
Found name first names None = is_among name names ≡ false

further : (name x : List ℕ) (first : ℕ) (names : List (List ℕ)) (o : Option ℕ) → bytes_eq name x ≡ false →
    Found name (first + 1) names o → Found name first (x ∷ names) o
further name x first names (Some k) other f = record { index = suc f.index; at = omega (arith, f.at); here = f.here }
further name x first names None other f = rw other f

found_from : (name : List ℕ) (first : ℕ) (names : List (List ℕ)) →
    Found name first names (position_from (bytes_eq name) first names)
found_from name first [] = refl
found_from name first (x ∷ names) = by (bytes_eq name x) refl (found_from name (first + 1) names)
  where
    by : (b : Bool) → bytes_eq name x ≡ b →
        Found name (first + 1) names (position_from (bytes_eq name) (first + 1) names) →
        Found name first (x ∷ names) (if b then Some first else position_from (bytes_eq name) (first + 1) names)
    by true e again = record { index = 0; at = omega arith; here = ap (λ n. Some n) (sym (is_same name x e)) }
    by false e again = further name x first names (position_from (bytes_eq name) (first + 1) names) e again

found : (name : List ℕ) (names : List (List ℕ)) → Found name 0 names (number_of_name name names)
found name names =
    subst (λ (o : Option ℕ). Found name 0 names o) (sym (position_from-zero (bytes_eq name) names))
    (found_from name 0 names)

-- the number of a name is its index
pub number_found : (name : List ℕ) (names : List (List ℕ)) (k : ℕ) → number_of_name name names ≡ Some k →
    slice_get names k ≡ Some name
number_found name names k e =
    let f : IsPlace name 0 names k = subst (λ (o : Option ℕ). Found name 0 names o) e (found name names) in
    let at : k ≡ f.index = omega (arith, f.at) in
    ap (slice_get names) at ∙ f.here

pub number_missing : (name : List ℕ) (names : List (List ℕ)) → number_of_name name names ≡ None →
    is_among name names ≡ false
number_missing name names e = subst (λ (o : Option ℕ). Found name 0 names o) e (found name names)

among_at : (name : List ℕ) (names : List (List ℕ)) (k : ℕ) → slice_get names k ≡ Some name → is_among name names ≡ true
among_at name [] k e = absurd (cc)
among_at name (x ∷ names) zero e = let same : name ≡ x = cc in rw (same_as name x same) refl
among_at name (x ∷ names) (suc k) e = by (bytes_eq name x) (among_at name names k e)
  where
    by : (b : Bool) → is_among name names ≡ true → (if b then true else is_among name names) ≡ true
    by true again = refl
    by false again = again

-- a name has no number exactly if it isn't among them
pub missing : (name : List ℕ) (names : List (List ℕ)) → is_none (number_of_name name names) ≡ not (is_among name names)
missing name names = by (number_of_name name names) refl
  where
    by : (o : Option ℕ) → number_of_name name names ≡ o → is_none o ≡ not (is_among name names)
    by (Some k) e = rw (among_at name names k (number_found name names k e)) refl
    by None e = rw (number_missing name names e) refl

pub get_last : (names : List (List ℕ)) (name : List ℕ) → slice_get (names ++ name ∷ []) (length names) ≡ Some name
get_last [] name = refl
get_last (x ∷ names) name = get_last names name
