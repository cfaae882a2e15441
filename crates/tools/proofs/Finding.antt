-- The first of some that passes, from an index on.
use Rattle.std.proofs.Common.{◌≡◌, ℕ, ◌+◌, ◌<◌, zero, suc, Bool, true, false, List, [], ◌∷◌, Some, drop, get_or, length, refl, arith, add-one}
use Rattle.std.specs.Prelude.{find}

-- the one at the index
pub find_here : {X : Type 0} (p : X → Bool) (xs : List X) (i : ℕ) (d : X) → i < length xs → p (get_or xs i d) ≡ true
    → find p (drop i xs) ≡ Some (get_or xs i d)
find_here p [] i d inside passes = absurd (omega (arith, inside))
find_here p (x ∷ xs) zero d inside passes = rw passes refl
find_here p (x ∷ xs) (suc i) d inside passes = find_here p xs i d (omega (arith, inside)) passes

-- or one after it
later : {X : Type 0} (p : X → Bool) (xs : List X) (i : ℕ) (d : X) → i < length xs → p (get_or xs i d) ≡ false
    → find p (drop i xs) ≡ find p (drop (suc i) xs)
later p [] i d inside fails = absurd (omega (arith, inside))
later p (x ∷ xs) zero d inside fails = rw fails refl
later p (x ∷ xs) (suc i) d inside fails = later p xs i d (omega (arith, inside)) fails

pub find_later : {X : Type 0} (p : X → Bool) (xs : List X) (i : ℕ) (d : X) → i < length xs
    → p (get_or xs i d) ≡ false → find p (drop i xs) ≡ find p (drop (i + 1) xs)
find_later p xs i d inside fails = rw add-one (later p xs i d inside fails)
