-- The turns of an interval: that of robot i in cycle c, counted from 0, has the number 4 * c + i.
use Rattle.std.proofs.Common.{◌≡◌, ◌≢◌, ℕ, ◌+◌, ◌*◌, ◌%◌, ◌<◌, ◌≤◌, zero, suc, Bool, true, false, List, length, set, get_or, ◌⊎◌, inl, inr, refl, sym, ap, ◌∙◌, arith}
use Rattle.std.specs.Prelude.{nat_lt, nat_le, min}
use Rattle.std.proofs.lemmas.Bool.{cases_Bool, cases_eq, cases_lt, false≢true}
use Rattle.std.proofs.lemmas.List.{get_or-set_same, get_or-set_other, length-set}
use Rattle.std.proofs.lemmas.Bool.Decides.{nat_tests}
use Rattle.battles.specs.Battle.{Behaviour, BattleState, turn, turns}
use Rattle.battles.specs.Intervals.{cycles_without_updates, turns_left, is_turn_left, AreTurnNumbers, IsLike}
use Rattle.battles.proofs.Alike.{like_same, states_trans, rest_like}
use Rattle.battles.proofs.Commuting.{TurnsAlone, alone_stays, commutes}

rest_more : (robots : List Behaviour) (left : ℕ → Bool) (t n : ℕ) (s : BattleState) → left t ≡ true
    → turns_left robots left t (suc n) s ≡ turns_left robots left (t + 1) n (turn robots (t % 4) s)
unfolding turns_left
rest_more robots left t n s here = rw here refl

rest_less : (robots : List Behaviour) (left : ℕ → Bool) (t n : ℕ) (s : BattleState) → left t ≡ false
    → turns_left robots left t (suc n) s ≡ turns_left robots left (t + 1) n s
unfolding turns_left
rest_less robots left t n s gone = rw gone refl

-- the same turns are left
rest_same : (robots : List Behaviour) (left other : ℕ → Bool) (t n : ℕ) (s : BattleState)
    → ((k : ℕ) → t ≤ k → k < t + n → left k ≡ other k) → turns_left robots left t n s ≡ turns_left robots other t n s
unfolding turns_left
rest_same robots left other t zero s same = refl
rest_same robots left other t (suc n) s same =
    rw (same t (omega arith) (omega arith))
    (rest_same robots left other (t + 1) n _ (λ k from to. same k (omega arith) (omega arith)))

-- none is left
pub rest_none : (robots : List Behaviour) (left : ℕ → Bool) (t n : ℕ) (s : BattleState)
    → ((k : ℕ) → t ≤ k → k < t + n → left k ≡ false) → turns_left robots left t n s ≡ s
unfolding turns_left
rest_none robots left t zero s none = refl
rest_none robots left t (suc n) s none =
    rw (none t (omega arith) (omega arith))
    (rest_none robots left (t + 1) n s (λ k from to. none k (omega arith) (omega arith)))

-- A robot's next turn can be taken at once if the robot does it alone, or if no turn is left before it.
takes : (robots : List Behaviour) (left other : ℕ → Bool) (i d t n : ℕ) (s : BattleState) → d % 4 ≡ i → left d ≡ true →
    other d ≡ false
    → ((k : ℕ) → k ≢ d → left k ≡ other k) → ((k : ℕ) → k < d → k % 4 ≡ i → left k ≡ false) → t ≤ d → d < t + n
    → TurnsAlone robots i s ⊎ ((k : ℕ) → t ≤ k → k < d → left k ≡ false)
    → IsLike (turns_left robots other t n (turn robots i s)) (turns_left robots left t n s)
takes robots left other i d t zero s own here gone same later from to ready = absurd (omega arith)
takes robots left other i d t (suc n) s own here gone same later from to ready = elim (cases_eq t d) [
  | inl now ↦
      let still : (k : ℕ) → t + 1 ≤ k → k < t + 1 + n → left k ≡ other k =
      λ k from to. same k (omega (arith, from, now)) in
      like_same _ _ (sym (
      rest_more robots left t n s (rw now here)
      ∙ rw (now, own) (rest_same robots left other (d + 1) n (turn robots i s) (rw now at still))
      ∙ sym (rest_less robots other t n (turn robots i s) (rw now gone))))
  | inr before ↦ elim (cases_Bool (left t)) [
    | inl held ↦
        let distinct : i ≢ t % 4 = λ same. false≢true (sym (later t (omega arith) (sym same)) ∙ held) in
        let alone : TurnsAlone robots i s = elim ready as (λ r. TurnsAlone robots i s) [
          | inl alone ↦ alone
          | inr none ↦ absurd (false≢true (sym (none t (omega arith) (omega arith)) ∙ held))
        ] in
        let after = turn robots (t % 4) s in
        rw (rest_more robots left t n s held, rest_more robots other t n (turn robots i s) (sym (same t before) ∙ held))
        (states_trans (turns_left robots other (t + 1) n (turn robots (t % 4) (turn robots i s)))
        (turns_left robots other (t + 1) n (turn robots i after)) (turns_left robots left (t + 1) n after)
        (rest_like robots other (t + 1) n (turn robots (t % 4) (turn robots i s)) (turn robots i after)
        (commutes robots i (t % 4) s alone distinct))
        (takes robots left other i d (t + 1) n after own here gone same later (omega arith) (omega arith)
        (inl (alone_stays robots i (t % 4) s alone distinct))))
    | inr free ↦
        rw (rest_less robots left t n s free, rest_less robots other t n (turn robots i s) (sym (same t before) ∙ free))
        (takes robots left other i d (t + 1) n s own here gone same later (omega arith) (omega arith) (elim ready as
        (λ r. TurnsAlone robots i s ⊎ ((k : ℕ) → t + 1 ≤ k → k < d → left k ≡ false)) [
          | inl alone ↦ inl alone
          | inr none ↦ inr (λ k from to. none k (omega arith) to)
        ]))
  ]
]

le_no : (a b : ℕ) → b < a → nat_le a b ≡ false
le_no a b later = grind (arith, nat_tests)

le_yes : (a b : ℕ) → a ≤ b → nat_le a b ≡ true
le_yes a b past = grind (arith, nat_tests)

pub left_not : (next : List ℕ) (t : ℕ) → t < get_or next (t % 4) 0 → is_turn_left next t ≡ false
unfolding is_turn_left
left_not next t later = le_no (get_or next (t % 4) 0) t later

le_four : (d k : ℕ) → k % 4 ≡ d % 4 → k ≢ d → nat_le d k ≡ nat_le (d + 4) k
le_four d k own other = elim (cases_lt k d) [
  | inl before ↦ le_no d k before ∙ sym (le_no (d + 4) k (omega arith))
  | inr past ↦ le_yes d k past ∙ sym (le_yes (d + 4) k (omega arith))
]

-- the next turn of a robot has a number that is greater by four
left_same : (next : List ℕ) (i k : ℕ) → AreTurnNumbers next → i < 4 → k ≢ get_or next i 0
    → is_turn_left next k ≡ is_turn_left (set next i (get_or next i 0 + 4)) k
unfolding is_turn_left
left_same next i k are inside other = elim (cases_eq (k % 4) i) [
  | inl mine ↦
      let four = are.four in
      rw (mine, get_or-set_same next i (get_or next i 0 + 4) 0 (omega arith))
      (le_four (get_or next i 0) k (mine ∙ sym (are.own i inside)) other)
  | inr theirs ↦ ap (λ d. nat_le d k) (sym (get_or-set_other next i (k % 4) (get_or next i 0 + 4) 0 theirs))
]

pub turn_numbers_set : (next : List ℕ) (i n : ℕ) → AreTurnNumbers next → i < 4 →
    AreTurnNumbers (set next i (get_or next i 0 + 4 * n))
turn_numbers_set next i n are inside = record {
  four = length-set next i _ ∙ are.four;
  own = λ k within. elim (cases_eq k i) [
    | inl mine ↦
        let four = are.four in
        let turn_number = are.own i inside in
        rw (mine, get_or-set_same next i (get_or next i 0 + 4 * n) 0 (omega arith)) (omega arith)
    | inr theirs ↦ rw (get_or-set_other next i k (get_or next i 0 + 4 * n) 0 theirs) (are.own k within)
  ];
}

pub turn_numbers_one : (next : List ℕ) (i : ℕ) → AreTurnNumbers next → i < 4 →
    AreTurnNumbers (set next i (get_or next i 0 + 4))
turn_numbers_one next i are inside =
    let once : get_or next i 0 + 4 * 1 ≡ get_or next i 0 + 4 = omega arith in
    rw once at (turn_numbers_set next i 1 are inside)

pub next_taken : (robots : List Behaviour) (next : List ℕ) (i end : ℕ) (s : BattleState) → AreTurnNumbers next → i < 4 →
    get_or next i 0 < end
    → TurnsAlone robots i s ⊎ ((j : ℕ) → j < 4 → get_or next i 0 ≤ get_or next j 0)
    →
    IsLike (turns_left robots (is_turn_left (set next i (get_or next i 0 + 4))) 0 end (turn robots i s))
    (turns_left robots (is_turn_left next) 0 end s)
unfolding is_turn_left
next_taken robots next i end s are inside within ready =
    let four = are.four in
    let turn_number = are.own i inside in
    let here : get_or next (get_or next i 0 % 4) 0 ≡ get_or next i 0 = ap (λ k. get_or next k 0) turn_number in
    let gone : get_or (set next i (get_or next i 0 + 4)) (get_or next i 0 % 4) 0 ≡ get_or next i 0 + 4 =
    ap (λ k. get_or (set next i (get_or next i 0 + 4)) k 0) turn_number ∙
    get_or-set_same next i (get_or next i 0 + 4) 0 (omega arith) in
    takes robots (is_turn_left next) (is_turn_left (set next i (get_or next i 0 + 4))) i (get_or next i 0) 0 end s
    turn_number
    (le_yes (get_or next (get_or next i 0 % 4) 0) (get_or next i 0) (omega (arith, here)))
    (le_no (get_or (set next i (get_or next i 0 + 4)) (get_or next i 0 % 4) 0) (get_or next i 0) (omega (arith, gone)))
    (λ k other. left_same next i k are inside other)
    (λ k before mine. le_no (get_or next (k % 4) 0) k (omega (arith, before, ap (λ j. get_or next j 0) mine)))
    (omega arith) (omega arith)
    (elim ready as
    (λ r. TurnsAlone robots i s ⊎
    ((k : ℕ) → 0 ≤ k → k < get_or next i 0 → nat_le (get_or next (k % 4) 0) k ≡ false)) [
      | inl alone ↦ inl alone
      | inr first ↦ inr
          (λ k from before. le_no (get_or next (k % 4) 0) k (omega (arith, before, first (k % 4) (omega arith))))
    ])

-- As long as none was taken, the turns that are left are those of whole cycles.
in_row : ℕ → ℕ → Bool
in_row n t = nat_lt (t % 4) n

row_step : (robots : List Behaviour) (n j t m : ℕ) (s : BattleState) → t % 4 ≡ j
    →
    turns_left robots (in_row n) t (suc m) (turns robots (min j n) s) ≡
    turns_left robots (in_row n) (t + 1) m (turns robots (min (j + 1) n) s)
unfolding in_row turns
row_step robots n j t m s remainder = elim (cases_lt j n) [
  | inl inside ↦
      let this : min j n ≡ j = omega arith in
      let next : min (j + 1) n ≡ suc j = omega arith in
      let yes : nat_lt (t % 4) n ≡ true = grind (arith, nat_tests) in
      rest_more robots (in_row n) t m (turns robots (min j n) s) yes ∙ rw (this, next, remainder) refl
  | inr outside ↦
      let same : min j n ≡ min (j + 1) n = omega arith in
      let no : nat_lt (t % 4) n ≡ false = grind (arith, nat_tests) in
      rest_less robots (in_row n) t m (turns robots (min j n) s) no ∙
      ap (λ k. turns_left robots (in_row n) (t + 1) m (turns robots k s)) same
]

row : (robots : List Behaviour) (n t m : ℕ) (s : BattleState) → t % 4 ≡ 0 → n ≤ 4
    →
    turns_left robots (in_row n) t (suc (suc (suc (suc m)))) s ≡
    turns_left robots (in_row n) (t + 1 + 1 + 1 + 1) m (turns robots n s)
unfolding turns
row robots n t m s begins most =
    let first : min 0 n ≡ 0 = omega arith in
    let last : min (3 + 1) n ≡ n = omega arith in
    ap (λ k. turns_left robots (in_row n) t (suc (suc (suc (suc m)))) (turns robots k s)) (sym first)
    ∙ row_step robots n 0 t (suc (suc (suc m))) s begins
    ∙ row_step robots n 1 (t + 1) (suc (suc m)) s (omega arith)
    ∙ row_step robots n 2 (t + 1 + 1) (suc m) s (omega arith)
    ∙ row_step robots n 3 (t + 1 + 1 + 1) m s (omega arith)
    ∙ ap (λ k. turns_left robots (in_row n) (t + 1 + 1 + 1 + 1) m (turns robots k s)) last

rounds_first : (robots : List Behaviour) (w : ℕ) (s : BattleState)
    → cycles_without_updates robots w (turns robots (length robots) s) ≡ cycles_without_updates robots (suc w) s
unfolding cycles_without_updates
rounds_first robots zero s = refl
rounds_first robots (suc w) s = ap (turns robots (length robots)) (rounds_first robots w s)

rows : (robots : List Behaviour) (t w : ℕ) (s : BattleState) → t % 4 ≡ 0 → length robots ≤ 4
    → turns_left robots (in_row (length robots)) t (4 * w) s ≡ cycles_without_updates robots w s
unfolding cycles_without_updates turns_left
rows robots t zero s begins most = refl
rows robots t (suc w) s begins most =
    let more : 4 * suc w ≡ suc (suc (suc (suc (4 * w)))) = omega arith in
    rw more (row robots (length robots) t (4 * w) s begins most)
    ∙ rows robots (t + 1 + 1 + 1 + 1) w (turns robots (length robots) s) (omega arith) most
    ∙ rounds_first robots w s

-- an interval begins
pub rest_all : (robots : List Behaviour) (next : List ℕ) (n w : ℕ) (s : BattleState) → AreTurnNumbers next →
    n ≡ length robots → n ≤ 4
    → ((i : ℕ) → i < n → get_or next i 0 ≡ i) → ((i : ℕ) → n ≤ i → i < 4 → 4 * w ≤ get_or next i 0)
    → turns_left robots (is_turn_left next) 0 (4 * w) s ≡ cycles_without_updates robots w s
unfolding is_turn_left in_row
rest_all robots next n w s are all most first past =
    rest_same robots (is_turn_left next) (in_row n) 0 (4 * w) s (λ t from to. elim (cases_lt (t % 4) n) [
      | inl inside ↦ le_yes (get_or next (t % 4) 0) t (omega (arith, first (t % 4) inside)) ∙
          sym (grind (arith, nat_tests))
      | inr outside ↦ le_no (get_or next (t % 4) 0) t (omega (arith, past (t % 4) outside (omega arith))) ∙
          sym (grind (arith, nat_tests))
    ])
    ∙ rw all (rows robots 0 w s (omega arith) (omega (arith, all, most)))
