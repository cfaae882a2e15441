-- A test that computes to true at each number below a bound holds at each of them.
use Rattle.std.proofs.Common.{◌≡◌, ℕ, zero, suc, ◌<◌, Bool, true, ◌&&◌, refl}
use Rattle.std.proofs.lemmas.Bool.Decides.{Decides-below_and}

-- whether the test gives true at each number below n
abbrev pub passes_below : (ℕ → Bool) → ℕ → Bool
passes_below p zero = true
passes_below p (suc n) = p n && passes_below p n

pub passes_at : (p : ℕ → Bool) (n : ℕ) → passes_below p n ≡ true → (k : ℕ) → k < n → p k ≡ true
passes_at p n =
    (Decides-below_and p (λ k. p k ≡ true) (passes_below p) (λ _. (λ e. e, λ e. e)) refl (λ _. refl) n).0
