-- A battle that is over within a limit is the same within a longer one.
use Rattle.std.proofs.Common.{◌≡◌, ◌≢◌, ℕ, ◌+◌, ◌≤◌, ◌<◌, zero, suc, Bool, true, List, length, sym, ap, ◌∙◌, inl, inr, arith}
use Rattle.std.proofs.lemmas.Bool.{cases_Bool, false≢true}
use Rattle.battles.specs.Battle.{Behaviour, Outcome, first_state, state_after, is_over, first_passing, last_cycle, damages_of, battle}
use Rattle.battles.proofs.Cycles.{first_here, first_later, first_none}

-- the first of some numbers that passes is the first of more numbers too
first_longer : (passes : ℕ → Bool) (n count more first : ℕ) → count ≤ more → first_passing passes n count ≡ first →
    passes first ≡ true → n < first
    → first_passing passes n more ≡ first
first_longer passes n zero more first within is over some =
    let none = first_none passes n in absurd (omega arith)
first_longer passes n (suc count) zero first within is over some = absurd (omega arith)
first_longer passes n (suc count) (suc more) first within is over some =
    elim (cases_Bool (passes (n + 1))) [
      | inl here ↦ first_here passes n more here ∙ sym (first_here passes n count here) ∙ is
      | inr later ↦
          let above : n + 1 ≢ first = λ same. false≢true (sym later ∙ ap passes same ∙ over) in
          first_later passes n more later
          ∙
          first_longer passes (n + 1) count more first (omega arith) (sym (first_later passes n count later) ∙ is)
          over (omega arith)
    ]

-- the battle doesn't change
pub longer : (robots : List Behaviour) (seed number limit more cycles : ℕ) (damages : List ℕ)
    → battle robots seed number limit ≡ record { cycles = cycles; damages = damages }
    → is_over cycles (state_after robots (first_state (length robots) seed number) cycles) ≡ true → 0 < cycles →
    limit ≤ more
    → battle robots seed number more ≡ record { cycles = cycles; damages = damages }
unfolding battle last_cycle
longer robots seed number limit more cycles damages is over some within =
    let opened = first_state (length robots) seed number in
    let last : first_passing (λ n. is_over n (state_after robots opened n)) 0 limit ≡ cycles =
    ap (λ (o : Outcome). o.cycles) is in
    let later : first_passing (λ n. is_over n (state_after robots opened n)) 0 more ≡ cycles =
    first_longer (λ n. is_over n (state_after robots opened n)) 0 limit more cycles within last over some in
    let ended : ℕ → Outcome =
    λ n. record { cycles = n; damages = damages_of (length robots) (state_after robots opened n).field } in
    ap ended (later ∙ sym last) ∙ is
