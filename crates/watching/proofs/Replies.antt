-- What a cycle makes of the replies of one robot.
use Rattle.std.proofs.Common.{◌≡◌, ℕ, ◌+◌, ◌<◌, ◌≤◌, zero, suc, true, ℤ, List, [], ◌∷◌, ◌++◌, length, get_or, inl, inr, refl, sym, ap, ◌∙◌, arith}
use Rattle.std.proofs.lemmas.Bool.{cases_Bool, cases_eq}
use Rattle.std.proofs.lemmas.List.{get_or-set_same, get_or-set_other, length-set}
use Rattle.arena.specs.Answer.{answer}
use Rattle.arena.specs.Field.{Field, is_live_at}
use Rattle.grammar.specs.declared.resolved_names.Intrinsic.{Intrinsic}
use Rattle.code.specs.declared.want.Want.TheVariants.{Ask}
use Rattle.battles.specs.Battle.{Behaviour, BattleState, cycle, is_due, behaviour_at, state_after, robot_turn, turn, turns, updated}
use Rattle.battles.proofs.Asking.{step_asks}
use Rattle.battles.proofs.Commuting.{live_same}
use Rattle.battles.proofs.Cycles.{state_more}
use Rattle.watching.specs.Moments.{replies_of}

-- before a robot's own turn it lives as at the cycle's begin, and has the same replies
lives_before : (robots : List Behaviour) (i k : ℕ) (s : BattleState) → k ≤ i
    → is_live_at (turns robots k s).field i ≡ is_live_at s.field i
unfolding turns turn
lives_before robots i zero s within = refl
lives_before robots i (suc k) s within =
    live_same (behaviour_at robots k) i k (turns robots k s).field (get_or (turns robots k s).traces k [])
    (omega arith)
    ∙ lives_before robots i k s (omega arith)

replies_before : (robots : List Behaviour) (i k : ℕ) (s : BattleState) → k ≤ i
    → replies_of (turns robots k s) i ≡ replies_of s i
unfolding turns turn
replies_before robots i zero s within = refl
replies_before robots i (suc k) s within =
    get_or-set_other (turns robots k s).traces k i _ [] (omega arith) ∙ replies_before robots i k s (omega arith)

traces_length : (robots : List Behaviour) (k : ℕ) (s : BattleState) → length (turns robots k s).traces ≡ length s.traces
unfolding turns turn
traces_length robots zero s = refl
traces_length robots (suc k) s = length-set (turns robots k s).traces k _ ∙ traces_length robots k s

-- in it the robot takes its step, and later turns leave its replies
replies_own : (robots : List Behaviour) (i : ℕ) (s : BattleState) → i < length s.traces
    → replies_of (turns robots (suc i) s) i
    ≡ (robot_turn (behaviour_at robots i) i (turns robots i s).field (replies_of (turns robots i s) i)).1
unfolding turns turn
replies_own robots i s inside =
    get_or-set_same (turns robots i s).traces i _ [] (omega (arith, inside, traces_length robots i s))

replies_after : (robots : List Behaviour) (i k : ℕ) (s : BattleState) → i < k
    → replies_of (turns robots k s) i ≡ replies_of (turns robots (suc i) s) i
unfolding turns turn
replies_after robots i zero s past = absurd (omega arith)
replies_after robots i (suc k) s past = elim (cases_eq i k) [
  | inl same ↦ ap (λ j. replies_of (turns robots (suc j) s) i) (sym same)
  | inr other ↦
      get_or-set_other (turns robots k s).traces k i _ [] other
      ∙ replies_after robots i k s (omega (arith, other))
]

-- an update leaves all replies
replies_updated : (number i : ℕ) (s : BattleState) → replies_of (updated number s) i ≡ replies_of s i
unfolding updated
replies_updated number i s = elim (cases_Bool (is_due number)) [
  | inl due ↦ rw due refl
  | inr between ↦ rw between refl
]

-- So a live robot that asks has one reply more after the cycle.
pub reply_comes : (robots : List Behaviour) (i n : ℕ) (s : BattleState) (k : Intrinsic) (a : List ℤ) → i < length robots
    → i < length (state_after robots s n).traces → is_live_at (state_after robots s n).field i ≡ true
    → behaviour_at robots i (replies_of (state_after robots s n) i) ≡ Ask k a
    → (reply : ℤ) × (replies_of (state_after robots s (n + 1)) i ≡ replies_of (state_after robots s n) i ++ reply ∷ [])
unfolding cycle
reply_comes robots i n s k a one inside live asks =
    let now = state_after robots s n in
    let before = turns robots i now in
    let same = replies_before robots i i now (omega arith) in
    let lives : is_live_at before.field i ≡ true = lives_before robots i i now (omega arith) ∙ live in
    let asked : behaviour_at robots i (replies_of before i) ≡ Ask k a = ap (behaviour_at robots i) same ∙ asks in
    let stepped = step_asks (behaviour_at robots i) i before.field (replies_of before i) k a lives asked in
    let reply = (answer before.field i k a).0 in (
      reply,
      ap (λ (t : BattleState). replies_of t i) (state_more robots s n)
          ∙ replies_updated (n + 1) i (turns robots (length robots) now)
          ∙ replies_after robots i (length robots) now one
          ∙ replies_own robots i now inside
          ∙ ap (λ (t : Field × List ℤ). t.1) stepped
          ∙ ap (λ (l : List ℤ). l ++ reply ∷ []) same,
    )
