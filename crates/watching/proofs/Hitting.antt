-- Hits: what is looked for burst by burst, and robot by robot, is what the definition says.
use Rattle.std.proofs.Common.{◌≡◌, ℕ, ◌<◌, Bool, true, false, get_or, ap, ◌∙◌, arith}
use Rattle.std.specs.List.{list_any, range_with_len}
use Rattle.std.specs.Prelude.{◌==◌, ◌&&◌, nat_lt, not}
use Rattle.arena.specs.Field.{Field}
use Rattle.arena.specs.declared.bursts.Burst.{Burst}
use Rattle.arena.specs.Outlook.{taken_by}
use Rattle.std.proofs.lemmas.List.Folds.{list_any_at, list_any_none}
use Rattle.watching.specs.Hits.{hurts_another}
use Rattle.std.proofs.lemmas.List.FromFn.{get_or-range_with_len, length-range_with_len}

-- a burst hurts a robot that didn't fire it
abbrev pub hurting : Field → Burst → ℕ → Bool
hurting field burst other = not (other == burst.robot) && nat_lt 0 (taken_by field other burst)

-- it is one of a robot, and does so
abbrev pub hitting : Field → ℕ → Burst → Bool
hitting field i burst = (burst.robot == i) && hurts_another field burst

-- none of the numbers below n passes
pub none_below : (p : ℕ → Bool) (n : ℕ) → ((k : ℕ) → k < n → p k ≡ false) → list_any p (range_with_len 0 n) ≡ false
none_below p n none =
    list_any_none p (range_with_len 0 n) (λ k d inside.
    let below : k < n = omega (arith, inside, length-range_with_len 0 n) in
    let is : get_or (range_with_len 0 n) k d ≡ k = omega (arith, get_or-range_with_len 0 n k d below) in
    ap p is ∙ none k below)

-- one of them passes
pub one_below : (p : ℕ → Bool) (n k : ℕ) → k < n → p k ≡ true → list_any p (range_with_len 0 n) ≡ true
one_below p n k below passes =
    let is : get_or (range_with_len 0 n) k 0 ≡ k = omega (arith, get_or-range_with_len 0 n k 0 below) in
    list_any_at p (range_with_len 0 n) k 0 (omega (arith, below, length-range_with_len 0 n)) (ap p is ∙ passes)
