-- Elements of lists by their indices.
use Rattle.std.proofs.Common.{◌≡◌, ℕ, zero, suc, ◌<◌, List, [], ◌∷◌, ◌++◌, refl, sym, ap, ap₂, arith, length}
use Rattle.std.specs.Prelude.{Some, slice_get, set, map}

-- what comes after doesn't count
pub get_append : {X : Type 0} (xs ys : List X) (k : ℕ) (x : X) → slice_get xs k ≡ Some x →
    slice_get (xs ++ ys) k ≡ Some x
get_append [] ys k x e = absurd (cc)
get_append (y ∷ xs) ys zero x e = e
get_append (y ∷ xs) ys (suc k) x e = get_append xs ys k x e

pub get_set_same : {X : Type 0} (xs : List X) (k : ℕ) (x : X) → k < length xs → slice_get (set xs k x) k ≡ Some x
get_set_same [] k x h = absurd (omega arith)
get_set_same (y ∷ xs) zero x h = refl
get_set_same (y ∷ xs) (suc k) x h = get_set_same xs k x (omega arith)

pub get_set_other : {X : Type 0} (xs : List X) (n k : ℕ) (x : X) → (k ≡ n → ⊥) →
    slice_get (set xs n x) k ≡ slice_get xs k
get_set_other [] n k x h = refl
get_set_other (y ∷ xs) zero zero x h = absurd (h refl)
get_set_other (y ∷ xs) zero (suc k) x h = refl
get_set_other (y ∷ xs) (suc n) zero x h = refl
get_set_other (y ∷ xs) (suc n) (suc k) x h = get_set_other xs n k x (λ e. h (ap suc e))

pub some_same : {X : Type 0} (a b : X) → Some a ≡ Some b → a ≡ b
some_same a b e = cc

-- a list is the other's, element by element
pub map_by_index : {X Y : Type 0} (f : X → Y) (xs : List X) (ys : List Y) → length xs ≡ length ys →
    ((k : ℕ) (x : X) → slice_get xs k ≡ Some x → slice_get ys k ≡ Some (f x)) → map f xs ≡ ys
map_by_index f [] [] l h = refl
map_by_index f [] (y ∷ ys) l h = absurd (omega (arith, l))
map_by_index f (x ∷ xs) [] l h = absurd (omega (arith, l))
map_by_index f (x ∷ xs) (y ∷ ys) l h =
    ap₂ (λ a rest. a ∷ rest) (sym (some_same y (f x) (h zero x refl)))
    (map_by_index f xs ys (omega (arith, l)) (λ k a e. h (suc k) a e))
