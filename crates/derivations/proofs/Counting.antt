-- The instructions of some actions are counted one after another.
use Rattle.std.proofs.Common.{◌≡◌, ℕ, suc, ◌+◌, ◌*◌, ◌<◌, ◌≤◌, List, sym, ap, ◌∙◌, arith, length, take}
use Rattle.std.specs.Prelude.{get_or, min, pos}
use Rattle.std.proofs.Math.Seq.{take-suc}
use Rattle.grammar.specs.Actions.{code_length, instructions}
use Rattle.grammar.specs.Profile.{Profile}
use Rattle.grammar.specs.declared.actions.Action.{Action}
use Rattle.grammar.specs.declared.actions.Action.TheVariants.{PushConstant}
use Rattle.grammar.proofs.Lengths.{code_length-last}

pub counted : (p : Profile) (xs : List Action) (i made count from result : ℕ) → i < length xs → length xs ≤ 4 →
    made ≡ code_length p (take i xs) → made ≤ 4 * i → count ≡ instructions p (get_or xs i (PushConstant (pos 0))) →
    count ≤ 4 → from ≡ count → result ≡ min (made + from) 18446744073709551615 →
    (result ≡ code_length p (take (i + 1) xs)) × (result ≤ 4 * (i + 1))
counted p xs i made count from result inside short e few h most j k =
    let sum : result ≡ made + count = omega (arith, inside, short, few, most, j, k) in
    let next : suc i ≡ i + 1 = omega arith in (
      sum ∙ ap (λ (n : ℕ). n + count) e ∙ ap (λ (n : ℕ). code_length p (take i xs) + n) h
          ∙ sym (code_length-last p (take i xs) (get_or xs i (PushConstant (pos 0))))
          ∙ sym (ap (λ (l : List Action). code_length p l) (take-suc xs i (PushConstant (pos 0)) inside))
          ∙ ap (λ (n : ℕ). code_length p (take n xs)) next,
      omega (arith, sum, few, most),
    )
