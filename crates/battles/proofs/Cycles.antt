-- What a cycle does, and which cycle is the last.
use Rattle.std.proofs.Common.{◌≡◌, ◌≢◌, ℕ, ◌+◌, ◌-◌, ◌%◌, ◌<◌, suc, Bool, true, false, List, length, refl, sym, ◌∙◌, arith, add-one}
use Rattle.std.specs.Prelude.{nat_le}
use Rattle.std.proofs.lemmas.Bool.Decides.{nat_tests}
use Rattle.arena.specs.Field.{live_count}
use Rattle.arena.specs.Arena.{Arena}
use Rattle.arena.specs.Moved.{moved}
use Rattle.arena.specs.Representing.{RepresentsField}
use Rattle.engine.specs.Executables.{Executable}
use Rattle.battles.specs.Battle.{Behaviour, BattleState, turns, is_due, updated, cycle, is_over, state_after, first_passing, last_cycle}
use Rattle.battles.specs.Carrying.{Runner, HasReached}

is_due_yes : (number : ℕ) → number % 15 ≡ 0 → is_due number ≡ true
unfolding is_due
is_due_yes number e = grind (arith, nat_tests)

is_due_no : (number : ℕ) → number % 15 ≢ 0 → is_due number ≡ false
unfolding is_due
is_due_no number e = grind (arith, nat_tests)

-- no update is due
pub cycle_alone : (robots : List Behaviour) (number : ℕ) (s : BattleState) → number % 15 ≢ 0 →
    cycle robots number s ≡ turns robots (length robots) s
unfolding cycle updated
cycle_alone robots number s e = rw (is_due_no number e) refl

pub goes_on : (number : ℕ) (s : BattleState) → number % 15 ≢ 0 → is_over number s ≡ false
unfolding is_over
goes_on number s e = rw (is_due_no number e) refl

-- one is due
pub cycle_updates : (robots : List Behaviour) (number : ℕ) (s : BattleState) → number % 15 ≡ 0
    →
    cycle robots number s ≡
    record
    { field = moved (turns robots (length robots) s).field; traces = (turns robots (length robots) s).traces }
unfolding cycle updated
cycle_updates robots number s e = rw (is_due_yes number e) refl

pub over_if_few : (number : ℕ) (s : BattleState) → number % 15 ≡ 0 → is_over number s ≡ nat_le (live_count s.field) 1
unfolding is_over
over_if_few number s e = rw (is_due_yes number e) refl

pub updated_reached : (runners : List Runner) (exes : List Executable) (arena after : Arena) (s : BattleState)
    → HasReached runners exes arena s → RepresentsField after (moved s.field)
    → HasReached runners exes after (record { field = moved s.field; traces = s.traces })
updated_reached runners exes arena after s reached moves = record { field = moves; traces = reached.traces }

-- no cycle was run yet
pub state_none : (robots : List Behaviour) (s : BattleState) → state_after robots s 0 ≡ s
unfolding state_after
state_none robots s = refl

pub state_more : (robots : List Behaviour) (s : BattleState) (n : ℕ) →
    state_after robots s (n + 1) ≡ cycle robots (n + 1) (state_after robots s n)
unfolding state_after
state_more robots s n = rw add-one refl

-- the search for the last cycle goes on from a cycle that is not the last
pub first_begins : (robots : List Behaviour) (s : BattleState) (limit : ℕ)
    → first_passing (λ n. is_over n (state_after robots s n)) 0 (limit - 0) ≡ last_cycle robots s limit
unfolding last_cycle
first_begins robots s limit = let e : limit - 0 ≡ limit = omega arith in rw e refl

pub first_here : (passes : ℕ → Bool) (n count : ℕ) → passes (n + 1) ≡ true → first_passing passes n (suc count) ≡ n + 1
unfolding first_passing
first_here passes n count here = rw here refl

pub first_later : (passes : ℕ → Bool) (n count : ℕ) → passes (n + 1) ≡ false →
    first_passing passes n (suc count) ≡ first_passing passes (n + 1) count
unfolding first_passing
first_later passes n count here = rw here refl

pub first_none : (passes : ℕ → Bool) (n : ℕ) → first_passing passes n 0 ≡ n
unfolding first_passing
first_none passes n = refl

pub first_more : (passes : ℕ → Bool) (n limit last : ℕ) → n < limit → first_passing passes n (limit - n) ≡ last
    → passes (n + 1) ≡ false → first_passing passes (n + 1) (limit - (n + 1)) ≡ last
first_more passes n limit last within so later =
    let e : limit - n ≡ suc (limit - (n + 1)) = omega arith in
    sym (first_later passes n (limit - (n + 1)) later) ∙ rw e at so

pub first_is : (passes : ℕ → Bool) (n limit last : ℕ) → n < limit → first_passing passes n (limit - n) ≡ last
    → passes (n + 1) ≡ true → n + 1 ≡ last
first_is passes n limit last within so here =
    let e : limit - n ≡ suc (limit - (n + 1)) = omega arith in
    sym (first_here passes n (limit - (n + 1)) here) ∙ rw e at so

pub first_ends : (passes : ℕ → Bool) (n limit last : ℕ) → n ≡ limit → first_passing passes n (limit - n) ≡ last →
    limit ≡ last
first_ends passes n limit last done so =
    let e : limit - n ≡ 0 = omega arith in
    let at_end : first_passing passes n 0 ≡ last = rw e at so in
    sym done ∙ sym (first_none passes n) ∙ at_end
