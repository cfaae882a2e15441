-- Cycles from one update to the next.
use Rattle.std.proofs.Common.{◌≡◌, ℕ, ◌+◌, ◌*◌, ◌-◌, ◌%◌, ◌/◌, ◌<◌, ◌≤◌, zero, suc, Bool, true, false, List, length, refl, sym, ap, ◌∙◌, arith}
use Rattle.std.specs.Prelude.{nat_le}
use Rattle.arena.specs.Field.{live_count}
use Rattle.arena.specs.Moved.{moved}
use Rattle.battles.specs.Battle.{Behaviour, BattleState, turns, is_over, state_after, first_passing}
use Rattle.battles.specs.Intervals.{cycles_without_updates, period, periods}
use Rattle.battles.proofs.Cycles.{cycle_alone, cycle_updates, goes_on, state_more, over_if_few, first_later, first_none, first_is, first_more}

-- no update falls within an interval
pub state_within : (robots : List Behaviour) (s : BattleState) (n w : ℕ) → n % 15 ≡ 0 → w < 15
    → state_after robots s (n + w) ≡ cycles_without_updates robots w (state_after robots s n)
unfolding cycles_without_updates
state_within robots s n zero begins small = ap (state_after robots s) (omega arith)
state_within robots s n (suc w) begins small =
    let next : n + suc w ≡ n + w + 1 = omega arith in
    ap (state_after robots s) next
    ∙ state_more robots s (n + w)
    ∙ cycle_alone robots (n + w + 1) (state_after robots s (n + w)) (omega arith)
    ∙ ap (turns robots (length robots)) (state_within robots s n w begins (omega arith))

-- an update falls at its end
updated_state : BattleState → BattleState
updated_state s = record { field = moved s.field; traces = s.traces }

state_updated : (robots : List Behaviour) (s : BattleState) (n : ℕ) → n % 15 ≡ 0
    → state_after robots s (n + 15) ≡ period robots (state_after robots s n)
unfolding cycles_without_updates period updated_state
state_updated robots s n begins =
    let last : n + 15 ≡ n + 14 + 1 = omega arith in
    ap (state_after robots s) last
    ∙ state_more robots s (n + 14)
    ∙ cycle_updates robots (n + 14 + 1) (state_after robots s (n + 14)) (omega arith)
    ∙
    ap (λ before. updated_state (turns robots (length robots) before))
    (state_within robots s n 14 begins (omega arith))

pub state_segment : (robots : List Behaviour) (s : BattleState) (n : ℕ)
    → state_after robots s (15 * (n + 1)) ≡ period robots (state_after robots s (15 * n))
state_segment robots s n =
    let next : 15 * (n + 1) ≡ 15 * n + 15 = omega arith in
    ap (state_after robots s) next ∙ state_updated robots s (15 * n) (omega arith)

pub state_segments : (robots : List Behaviour) (s : BattleState) (n k : ℕ)
    → state_after robots s (15 * (n + k)) ≡ periods robots k (state_after robots s (15 * n))
unfolding periods
state_segments robots s n zero = ap (state_after robots s) (omega arith)
state_segments robots s n (suc k) =
    let next : n + suc k ≡ n + k + 1 = omega arith in
    ap (λ m. state_after robots s (15 * m)) next
    ∙ state_segment robots s (n + k)
    ∙ ap (period robots) (state_segments robots s n k)

pub state_rest : (robots : List Behaviour) (s : BattleState) (n limit : ℕ) → n ≡ limit / 15
    → state_after robots s limit ≡ cycles_without_updates robots (limit % 15) (state_after robots s (15 * n))
state_rest robots s n limit all =
    let sum : limit ≡ 15 * n + limit % 15 = omega arith in
    ap (state_after robots s) sum ∙ state_within robots s (15 * n) (limit % 15) (omega arith) (omega arith)

-- the search for the last cycle passes over cycles that aren't
first_skips : (passes : ℕ → Bool) (n k count : ℕ) → ((j : ℕ) → n < j → j ≤ n + k → passes j ≡ false)
    → first_passing passes n (k + count) ≡ first_passing passes (n + k) count
first_skips passes n zero count none =
    let same : n + 0 ≡ n = omega arith in
    let all : 0 + count ≡ count = omega arith in
    rw (same, all) refl
first_skips passes n (suc k) count none =
    let more : suc k + count ≡ suc (k + count) = omega arith in
    let next : n + suc k ≡ n + 1 + k = omega arith in
    ap (first_passing passes n) more
    ∙ first_later passes n (k + count) (none (n + 1) (omega arith) (omega arith))
    ∙ first_skips passes (n + 1) k count (λ j above most. none j (omega arith) (omega arith))
    ∙ ap (λ m. first_passing passes m count) (sym next)

over : (robots : List Behaviour) (s : BattleState) → ℕ → Bool
over robots s n = is_over n (state_after robots s n)

not_over : (robots : List Behaviour) (s : BattleState) (n j : ℕ) → n % 15 ≡ 0 → n < j → j < n + 15 →
    over robots s j ≡ false
unfolding over
not_over robots s n j begins above below = goes_on j (state_after robots s j) (omega arith)

-- the next update is where the search goes on
first_update : (robots : List Behaviour) (s : BattleState) (n limit last : ℕ) → n % 15 ≡ 0 → n + 15 ≤ limit
    → first_passing (λ k. is_over k (state_after robots s k)) n (limit - n) ≡ last
    → first_passing (λ k. is_over k (state_after robots s k)) (n + 14) (limit - (n + 14)) ≡ last
unfolding over
first_update robots s n limit last begins within so =
    let count : limit - n ≡ 14 + (limit - (n + 14)) = omega arith in
    sym
    (first_skips (over robots s) n 14 (limit - (n + 14))
    (λ j above most. not_over robots s n j begins above (omega arith)))
    ∙ rw count at so

few_after : (robots : List Behaviour) (s : BattleState) (n : ℕ)
    → over robots s (15 * n + 14 + 1) ≡ nat_le (live_count (period robots (state_after robots s (15 * n))).field) 1
unfolding over
few_after robots s n =
    let next : 15 * n + 14 + 1 ≡ 15 * n + 15 = omega arith in
    over_if_few (15 * n + 14 + 1) (state_after robots s (15 * n + 14 + 1)) (omega arith)
    ∙
    ap (λ (t : BattleState). nat_le (live_count t.field) 1)
    (ap (state_after robots s) next ∙ state_updated robots s (15 * n) (omega arith))

pub first_decided : (robots : List Behaviour) (s : BattleState) (n limit last : ℕ) → 15 * n + 15 ≤ limit
    → first_passing (λ k. is_over k (state_after robots s k)) (15 * n) (limit - 15 * n) ≡ last
    → nat_le (live_count (period robots (state_after robots s (15 * n))).field) 1 ≡ true → 15 * (n + 1) ≡ last
unfolding over
first_decided robots s n limit last within so decided =
    let next : 15 * (n + 1) ≡ 15 * n + 14 + 1 = omega arith in
    next ∙ first_is (over robots s) (15 * n + 14) limit last (omega arith)
    (first_update robots s (15 * n) limit last (omega arith) within so) (few_after robots s n ∙ decided)

pub first_undecided : (robots : List Behaviour) (s : BattleState) (n limit last : ℕ) → 15 * n + 15 ≤ limit
    → first_passing (λ k. is_over k (state_after robots s k)) (15 * n) (limit - 15 * n) ≡ last
    → nat_le (live_count (period robots (state_after robots s (15 * n))).field) 1 ≡ false
    → first_passing (λ k. is_over k (state_after robots s k)) (15 * (n + 1)) (limit - 15 * (n + 1)) ≡ last
unfolding over
first_undecided robots s n limit last within so undecided =
    let next : 15 * (n + 1) ≡ 15 * n + 14 + 1 = omega arith in
    rw next (first_more (over robots s) (15 * n + 14) limit last (omega arith)
    (first_update robots s (15 * n) limit last (omega arith) within so) (few_after robots s n ∙ undecided))

-- and so of some periods that leave more than one alive
pub first_skipped : (robots : List Behaviour) (s : BattleState) (n k limit last : ℕ) → 15 * (n + k) ≤ limit
    → first_passing (λ m. is_over m (state_after robots s m)) (15 * n) (limit - 15 * n) ≡ last
    → ((j : ℕ) → j ≤ k → nat_le (live_count (periods robots j (state_after robots s (15 * n))).field) 1 ≡ false)
    → first_passing (λ m. is_over m (state_after robots s m)) (15 * (n + k)) (limit - 15 * (n + k)) ≡ last
unfolding periods
first_skipped robots s n zero limit last within so undecided =
    let same : n + 0 ≡ n = omega arith in
    rw same so
first_skipped robots s n (suc k) limit last within so undecided =
    let next : n + suc k ≡ n + k + 1 = omega arith in
    let before = first_skipped robots s n k limit last (omega arith) so (λ j low. undecided j (omega arith)) in
    rw next (first_undecided robots s (n + k) limit last (omega arith) before
    (ap (λ (t : BattleState). nat_le (live_count t.field) 1) (ap (period robots) (state_segments robots s n k)) ∙
    undecided (suc k) (omega arith)))

-- no update comes before the limit
pub first_limit : (robots : List Behaviour) (s : BattleState) (n limit last : ℕ) → n % 15 ≡ 0 → n ≤ limit →
    limit < n + 15
    → first_passing (λ k. is_over k (state_after robots s k)) n (limit - n) ≡ last → limit ≡ last
unfolding over
first_limit robots s n limit last begins within short so =
    let count : limit - n ≡ limit - n + 0 = omega arith in
    let end : n + (limit - n) ≡ limit = omega arith in
    sym (ap (λ m. first_passing (over robots s) m 0) end ∙ first_none (over robots s) limit)
    ∙
    sym (first_skips (over robots s) n (limit - n) 0 (λ j above most. not_over robots s n j begins above (omega arith)))
    ∙ rw count at so
