-- A list whose members are changed one after another.
use Rattle.std.proofs.Common.{◌≡◌, ℕ, zero, suc, ◌<◌, ap, List, [], ◌∷◌, ◌++◌, arith, length, map, take, drop, get_or}
use Rattle.std.specs.Prelude.{slice_set}

-- one member more is changed
pub changed_more : {A : Type 0} (f : A → A) (xs : List A) (n : ℕ) (d y : A) → n < length xs
    → y ≡ f (get_or (map f (take n xs) ++ drop n xs) n d)
    → slice_set (map f (take n xs) ++ drop n xs) n y ≡ map f (take (suc n) xs) ++ drop (suc n) xs
changed_more f [] n d y within changed = absurd (omega (arith, within))
changed_more f (z ∷ xs) zero d y within changed = ap (λ a. a ∷ xs) changed
changed_more f (z ∷ xs) (suc n) d y within changed =
    ap (λ rest. f z ∷ rest) (changed_more f xs n d y (omega (arith, within)) changed)
