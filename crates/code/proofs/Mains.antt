-- The number of the function `main` among names.
use Rattle.std.specs.Prelude.{ℕ, ◌≡◌, ◌<◌, List, [], Bool, true, false, length, map, Some, None, slice_index_or}
use Rattle.std.specs.Str.{bytes_eq}
use Rattle.std.proofs.Common.{refl, sym, ◌∙◌}
use Rattle.std.proofs.lemmas.Slice.Eq.{bytes_eq-Decides}
use Rattle.grammar.specs.Compiled.{main_name}
use Rattle.grammar.specs.Pools.{FunctionNames}
use Rattle.grammar.specs.Scope.{number_of_name, only_named}
use Rattle.grammar.proofs.ScopeLaws.{not_there, there}

-- bytes are compared either way round
compared : (xs ys : List ℕ) (b : Bool) → bytes_eq xs ys ≡ b → bytes_eq ys xs ≡ b
compared xs ys true e = (bytes_eq-Decides ys xs).1 (sym ((bytes_eq-Decides xs ys).0 e))
compared xs ys false e = by (bytes_eq ys xs) refl
  where
    by : (b : Bool) → bytes_eq ys xs ≡ b → b ≡ false
    by true f =
        let same : true ≡ false = sym ((bytes_eq-Decides xs ys).1 (sym ((bytes_eq-Decides ys xs).0 f))) ∙ e in
        absurd (cc)
    by false f = refl

-- the first function of that name
pub main_here : (fs : List FunctionNames) (n : ℕ) (f : FunctionNames) → n < length fs →
    ((k : ℕ) → k < n → bytes_eq (slice_index_or fs k (only_named [])).name main_name ≡ false)
    → f ≡ slice_index_or fs n f → bytes_eq f.name main_name ≡ true →
    Some n ≡ number_of_name main_name (map (λ f. f.name) fs)
main_here fs n f h none here is =
    there main_name fs n f h (λ k l. compared (slice_index_or fs k (only_named [])).name main_name false (none k l))
    here (compared f.name main_name true is)

-- none has it
pub main_nowhere : (fs : List FunctionNames) →
    ((k : ℕ) → k < length fs → bytes_eq (slice_index_or fs k (only_named [])).name main_name ≡ false) →
    None ≡ number_of_name main_name (map (λ f. f.name) fs)
main_nowhere fs none =
    not_there main_name fs (λ k l. compared (slice_index_or fs k (only_named [])).name main_name false (none k l))
