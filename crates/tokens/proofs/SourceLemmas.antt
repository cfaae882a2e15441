-- The source in a piece of bytes, and in two pieces one after the other.
use Rattle.std.proofs.Common.{◌≡◌, ℕ, ◌<◌, ◌≤◌, Bool, true, false, cond, eqb, List, [], ◌∷◌, ◌++◌, length, take, refl, ap, arith}
use Rattle.tokens.specs.Source.{source}

pub length-source-le : (xs : List ℕ) → length (source xs) ≤ length xs
length-source-le [] = omega arith
length-source-le (b ∷ xs) =
    let e = length-source-le xs in
    elim (eqb b 26) as (λ t. length (cond t [] (b ∷ source xs)) ≤ length (b ∷ xs))
    [ true ↦ omega arith | false ↦ omega (arith, e) ]

-- no byte ends the source within the first piece
pub source-append : (xs ys : List ℕ) → length xs ≤ length (source xs) → source (xs ++ ys) ≡ xs ++ source ys
source-append [] ys h = refl
source-append (b ∷ xs) ys h = by (eqb b 26) (source-append xs ys) h
  where
    by : (t : Bool) → (length xs ≤ length (source xs) → source (xs ++ ys) ≡ xs ++ source ys) →
        length (b ∷ xs) ≤ length (cond t [] (b ∷ source xs)) → cond t [] (b ∷ source (xs ++ ys)) ≡ b ∷ (xs ++ source ys)
    by true f g = absurd (omega (arith, g))
    by false f g = ap (λ zs. b ∷ zs) (f (omega (arith, g)))

pub source-whole : (xs : List ℕ) → length xs ≤ length (source xs) → source xs ≡ xs
source-whole [] h = refl
source-whole (b ∷ xs) h = by (eqb b 26) (source-whole xs) h
  where
    by : (t : Bool) → (length xs ≤ length (source xs) → source xs ≡ xs) →
        length (b ∷ xs) ≤ length (cond t [] (b ∷ source xs)) → cond t [] (b ∷ source xs) ≡ b ∷ xs
    by true f g = absurd (omega (arith, g))
    by false f g = ap (λ zs. b ∷ zs) (f (omega (arith, g)))

-- a byte ends it within the first piece
pub source-ended : (xs ys : List ℕ) → length (source xs) < length xs → source (xs ++ ys) ≡ source xs
source-ended [] ys h = absurd (omega (arith, h))
source-ended (b ∷ xs) ys h = by (eqb b 26) (source-ended xs ys) h
  where
    by : (t : Bool) → (length (source xs) < length xs → source (xs ++ ys) ≡ source xs) →
        length (cond t [] (b ∷ source xs)) < length (b ∷ xs) →
        cond t [] (b ∷ source (xs ++ ys)) ≡ cond t [] (b ∷ source xs)
    by true f g = refl
    by false f g = ap (λ zs. b ∷ zs) (f (omega (arith, g)))

-- the source is a prefix of the bytes
pub take-source : (xs : List ℕ) → take (length (source xs)) xs ≡ source xs
take-source [] = refl
take-source (b ∷ xs) = by (eqb b 26) (take-source xs)
  where
    by : (t : Bool) → take (length (source xs)) xs ≡ source xs →
        take (length (cond t [] (b ∷ source xs))) (b ∷ xs) ≡ cond t [] (b ∷ source xs)
    by true e = refl
    by false e = ap (λ zs. b ∷ zs) e

pub ruleset cutting = (source-whole, length-source-le)
