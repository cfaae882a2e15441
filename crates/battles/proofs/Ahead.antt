-- How far the robots of an interval have come.
use Rattle.std.proofs.Common.{◌≡◌, ◌≢◌, ℕ, ◌+◌, ◌*◌, ◌-◌, ◌%◌, ◌<◌, ◌≤◌, zero, suc, ℤ, List, [], ◌∷◌, length, set, get_or, Some, ◌⊎◌, inl, inr, refl, sym, ap, ◌∙◌, arith}
use Rattle.std.specs.Prelude.{slice_get}
use Rattle.std.proofs.lemmas.List.{get_or-set_same, get_or-set_other, length-set, set-set, set-get_or}
use Rattle.std.proofs.lemmas.Bool.{cases_eq, cases_lt}
use Rattle.arena.specs.Field.{Field}
use Rattle.arena.specs.Arena.{Arena}
use Rattle.arena.specs.Representing.{RepresentsField}
use Rattle.code.specs.declared.want.Want.TheVariants.{Quiet}
use Rattle.engine.specs.Executables.{Executable}
use Rattle.battles.specs.Battle.{Behaviour, BattleState, robot_turn, turn, behaviour_at}
use Rattle.battles.specs.Carrying.{Runner, AreRobotsOf, EachIsAheadOf, HasReached, IsAheadOf, IsRobotOf}
use Rattle.battles.specs.Intervals.{AreTurnNumbers, HasCome, HasRunAlone, IsLike, OthersArePast, alone, RunsAlone, turns_left, is_turn_left, cycles_without_updates}
use Rattle.battles.proofs.Alike.{stands_like, states_refl, like_same, states_trans}
use Rattle.battles.proofs.Commuting.{TurnsAlone}
use Rattle.battles.proofs.TurnNumbers.{rest_all, rest_none, left_not, turn_numbers_one, turn_numbers_set, next_taken}
use Rattle.battles.proofs.States.{robot_at, robots_length, stands_at, stands_set}

-- a robot has run alone for n cycles
unfoldable pub ran : List Behaviour → ℕ → BattleState → ℕ → BattleState
ran robots i s n =
    let run = alone (behaviour_at robots i) i s.field (get_or s.traces i []) n in
    record { field = run.0; traces = set s.traces i run.1 }

ran_none : (robots : List Behaviour) (i : ℕ) (s : BattleState) → ran robots i s 0 ≡ s
unfolding ran alone
ran_none robots i s = ap (λ traces. record s { traces = traces }) (set-get_or s.traces i [])

ran_more : (robots : List Behaviour) (i : ℕ) (s : BattleState) (n : ℕ) → i < length s.traces
    → turn robots i (ran robots i s n) ≡ ran robots i s (suc n)
unfolding ran alone turn
ran_more robots i s n inside =
    let robot = behaviour_at robots i in
    let run = alone robot i s.field (get_or s.traces i []) n in
    rw (get_or-set_same s.traces i run.1 [] inside, set-set s.traces i run.1 (robot_turn robot i run.0 run.1).1) refl

ran_alone : (robots : List Behaviour) (i : ℕ) (s : BattleState) (n k : ℕ) → i < length s.traces
    → RunsAlone (behaviour_at robots i) i s.field (get_or s.traces i []) n → k < n →
    TurnsAlone robots i (ran robots i s k)
unfolding ran TurnsAlone
ran_alone robots i s n k inside runs within = λ live.
    let robot = behaviour_at robots i in
    rw (get_or-set_same s.traces i (alone robot i s.field (get_or s.traces i []) k).1 [] inside) (runs k within live)

-- past the longest interval is past one of fewer cycles
pub others_past : (i w : ℕ) (next : List ℕ) → w ≤ 15 → OthersArePast 60 i next → OthersArePast (4 * w) i next
others_past i w next within past j low other = omega (arith, within, past j low other)

-- If all others are past the end, none is left before its own.
first_left : (next : List ℕ) (i end n : ℕ) → AreTurnNumbers next → i < 4 → get_or next i 0 + 4 * n < end →
    OthersArePast end i next
    → (j : ℕ) → j < 4 →
    get_or (set next i (get_or next i 0 + 4 * n)) i 0 ≤ get_or (set next i (get_or next i 0 + 4 * n)) j 0
first_left next i end n are small within past j low =
    let four = are.four in
    let turn_number = get_or next i 0 + 4 * n in
    let own : get_or (set next i turn_number) i 0 ≡ turn_number = get_or-set_same next i turn_number 0 (omega arith) in
    elim (cases_eq j i) [
      | inl same ↦ rw same (omega arith)
      | inr other ↦
          let stays : get_or (set next i turn_number) j 0 ≡ get_or next j 0 =
          get_or-set_other next i j turn_number 0 other in
          omega (arith, own, stays, within, past j low other)
    ]

-- Its turns are no longer left: each was one that it does alone, or none of the others' was left.
pub run_taken : (robots : List Behaviour) (next : List ℕ) (i end n : ℕ) (s : BattleState) → AreTurnNumbers next →
    i < 4 →
    i < length s.traces
    → get_or next i 0 + 4 * n < end + 4
    → RunsAlone (behaviour_at robots i) i s.field (get_or s.traces i []) n ⊎ OthersArePast end i next
    →
    IsLike (turns_left robots (is_turn_left (set next i (get_or next i 0 + 4 * n))) 0 end (ran robots i s n))
    (turns_left robots (is_turn_left next) 0 end s)
run_taken robots next i end zero s are small inside within ready =
    let same : get_or next i 0 + 4 * 0 ≡ get_or next i 0 = omega arith in
    rw (ran_none robots i s, same, set-get_or next i 0) (states_refl _)
run_taken robots next i end (suc n) s are small inside within ready =
    let four = are.four in
    let d = get_or next i 0 in
    let before = set next i (d + 4 * n) in
    let turn_number : get_or before i 0 ≡ d + 4 * n = get_or-set_same next i (d + 4 * n) 0 (omega arith) in
    let turns : TurnsAlone robots i (ran robots i s n) ⊎ ((j : ℕ) → j < 4 → get_or before i 0 ≤ get_or before j 0) =
    elim ready as
    (λ r. TurnsAlone robots i (ran robots i s n) ⊎ ((j : ℕ) → j < 4 → get_or before i 0 ≤ get_or before j 0)) [
      | inl runs ↦ inl (ran_alone robots i s (suc n) n inside runs (omega arith))
      | inr past ↦ inr (first_left next i end n are small (omega arith) past)
    ] in
    let fewer : RunsAlone (behaviour_at robots i) i s.field (get_or s.traces i []) n ⊎ OthersArePast end i next =
    elim ready as
    (λ r. RunsAlone (behaviour_at robots i) i s.field (get_or s.traces i []) n ⊎ OthersArePast end i next) [
      | inl runs ↦ inl (λ k low. runs k (omega arith))
      | inr past ↦ inr past
    ] in
    let later : set before i (get_or before i 0 + 4) ≡ set next i (d + 4 * suc n) =
    ap (λ k. set before i (k + 4)) turn_number ∙ set-set next i (d + 4 * n) (d + 4 * n + 4) ∙
    ap (set next i) (omega arith) in
    let last : IsLike (turns_left robots (is_turn_left (set next i (d + 4 * suc n))) 0 end (ran robots i s (suc n)))
    (turns_left robots (is_turn_left before) 0 end (ran robots i s n)) =
    rw (later, ran_more robots i s n inside) at
    (next_taken robots before i end (ran robots i s n) (turn_numbers_set next i n are small) small
    (omega (arith, turn_number)) turns) in
    states_trans _ _ _ last (run_taken robots next i end n s are small inside (omega arith) fewer)

-- What a robot that runs alone makes of its machine and of the arena, whatever its trace and the field are.
pub record Runs (free : Type 0) (i : ℕ) (exe : Executable) (n : ℕ) (runner after : Runner) (arena grown : Arena) :
    Type 0 where
  pub on : (r : Behaviour) (f : Field) (trace : List ℤ) → IsRobotOf exe r → RepresentsField arena f →
      IsAheadOf runner exe trace
      → HasRunAlone free r i f trace n exe after grown

-- And one that takes the next turn before it runs.
pub record GoesOn (free : Type 0) (i : ℕ) (exe : Executable) (n : ℕ) (runner after : Runner) (arena grown : Arena) :
    Type 0 where
  pub on : (r : Behaviour) (f : Field) (trace : List ℤ) → IsRobotOf exe r → RepresentsField arena f →
      IsAheadOf runner exe trace
      → HasRunAlone free r i (robot_turn r i f trace).0 (robot_turn r i f trace).1 n exe after grown

traces_length : (runners : List Runner) (exes : List Executable) (traces : List (List ℤ)) →
    EachIsAheadOf runners exes traces → length traces ≡ length exes
traces_length [] [] [] stands = refl
traces_length (runner ∷ runners) (exe ∷ exes) (trace ∷ traces) stands =
    ap suc (traces_length runners exes traces stands.1)
traces_length _ _ _ stands = absurd stands

pub come_alone : (robots : List Behaviour) (exes : List Executable) (next : List ℕ) (w n i : ℕ) (runners : List Runner)
    (arena grown : Arena) (opened : BattleState)
    (exe : Executable) (none after : Runner) (free : Type 0)
    → AreRobotsOf exes robots → AreTurnNumbers next → i < 4 → i < length exes → get_or next i 0 + 4 * n < 4 * w + 4
    → (free → OthersArePast (4 * w) i next) → HasCome robots exes next w runners arena opened →
    slice_get exes i ≡ Some exe
    → Runs free i exe n (get_or runners i none) after arena grown
    → HasCome robots exes (set next i (get_or next i 0 + 4 * n)) w (set runners i after) grown opened
unfolding behaviour_at ran
come_alone robots exes next w n i runners arena grown opened exe none after free are turn_numbers small inside within
    past come here gone =
    let s = come.state in
    let robot = robot_at exes robots i exe (λ trace. Quiet) are here in
    let at = stands_at runners exes s.traces i exe none come.reached.traces here in
    let lengths = traces_length runners exes s.traces come.reached.traces in
    let on = gone.on (behaviour_at robots i) s.field (get_or s.traces i []) robot come.reached.field at in
    let ready : RunsAlone (behaviour_at robots i) i s.field (get_or s.traces i []) n ⊎ OthersArePast (4 * w) i next =
    elim on.turns as
    (λ r. RunsAlone (behaviour_at robots i) i s.field (get_or s.traces i []) n ⊎ OthersArePast (4 * w) i next) [
      | inl runs ↦ inl runs
      | inr drawn ↦ inr (past drawn)
    ] in
    record {
      state = ran robots i s n;
      reached = record {
        field = on.stands;
        traces = stands_set runners exes s.traces i after exe _ come.reached.traces here on.at;
      };
      ends = states_trans _ _ _
          (run_taken robots next i (4 * w) n s turn_numbers small (omega (arith, lengths, inside)) within ready)
          come.ends;
    }

pub come_on : (robots : List Behaviour) (exes : List Executable) (next : List ℕ) (w n i : ℕ) (runners : List Runner)
    (arena grown : Arena) (opened : BattleState)
    (exe : Executable) (none after : Runner) (free : Type 0)
    → AreRobotsOf exes robots → AreTurnNumbers next → i < 4 → i < length exes →
    get_or next i 0 + 4 * (1 + n) < 4 * w + 4
    → ((j : ℕ) → j < 4 → get_or next i 0 ≤ get_or next j 0) → (free → OthersArePast (4 * w) i next)
    → HasCome robots exes next w runners arena opened → slice_get exes i ≡ Some exe
    → GoesOn free i exe n (get_or runners i none) after arena grown
    → HasCome robots exes (set next i (get_or next i 0 + 4 * (1 + n))) w (set runners i after) grown opened
unfolding turn behaviour_at ran
come_on robots exes next w n i runners arena grown opened exe none after free are turn_numbers small inside within
    first past come here gone =
    let s = come.state in
    let robot = robot_at exes robots i exe (λ trace. Quiet) are here in
    let at = stands_at runners exes s.traces i exe none come.reached.traces here in
    let lengths = traces_length runners exes s.traces come.reached.traces in
    let trace = get_or s.traces i [] in
    let stepped = robot_turn (behaviour_at robots i) i s.field trace in
    let on = gone.on (behaviour_at robots i) s.field trace robot come.reached.field at in
    let four = turn_numbers.four in
    let d = get_or next i 0 in
    let later = set next i (d + 4) in
    let own : get_or later i 0 ≡ d + 4 = get_or-set_same next i (d + 4) 0 (omega arith) in
    let same : get_or (set s.traces i stepped.1) i [] ≡ stepped.1 =
    get_or-set_same s.traces i stepped.1 [] (omega (arith, lengths, inside)) in
    let twice : set later i (get_or later i 0 + 4 * n) ≡ set next i (d + 4 * (1 + n)) =
    ap (λ k. set later i (k + 4 * n)) own ∙ set-set next i (d + 4) (d + 4 + 4 * n) ∙ ap (set next i) (omega arith) in
    let long : length (set s.traces i stepped.1) ≡ length s.traces = length-set s.traces i stepped.1 in
    let ready : RunsAlone (behaviour_at robots i) i stepped.0 (get_or (set s.traces i stepped.1) i []) n ⊎
    OthersArePast (4 * w) i later =
    elim on.turns as
    (λ r. RunsAlone (behaviour_at robots i) i stepped.0 (get_or (set s.traces i stepped.1) i []) n ⊎
    OthersArePast (4 * w) i later) [
      | inl runs ↦ inl (rw same runs)
      | inr drawn ↦ inr (λ j low other. rw (get_or-set_other next i j (d + 4) 0 other) (past drawn j low other))
    ] in
    let taken =
    run_taken robots later i (4 * w) n (turn robots i s) (turn_numbers_one next i turn_numbers small) small
    (omega (arith, lengths, long, inside)) (omega (arith, own, within)) ready in
    let moved : (ran robots i (turn robots i s) n).traces ≡
    set s.traces i (alone (behaviour_at robots i) i stepped.0 stepped.1 n).1 =
    ap (λ t. set (set s.traces i stepped.1) i (alone (behaviour_at robots i) i stepped.0 t n).1) same
    ∙ set-set s.traces i stepped.1 (alone (behaviour_at robots i) i stepped.0 stepped.1 n).1 in
    record {
      state = ran robots i (turn robots i s) n;
      reached = record {
        field = rw same on.stands;
        traces = rw moved (stands_set runners exes s.traces i after exe _ come.reached.traces here on.at);
      };
      ends = states_trans _ _ _ (states_trans _ _ _ (rw twice at taken)
          (next_taken robots next i (4 * w) s turn_numbers small (omega (arith, within)) (inr first))) come.ends;
    }

-- how many turns the robots have left
pub left_until : ℕ → List ℕ → ℕ
left_until end next =
    (end - get_or next 0 0) + (end - get_or next 1 0) + (end - get_or next 2 0) + (end - get_or next 3 0)

pub left_less : (end : ℕ) (next : List ℕ) (i n : ℕ) → length next ≡ 4 → i < 4 → get_or next i 0 < end → 0 < n
    → left_until end (set next i (get_or next i 0 + 4 * n)) < left_until end next
unfolding left_until
left_less end (a ∷ b ∷ c ∷ d ∷ []) zero n four small within some = omega arith
left_less end (a ∷ b ∷ c ∷ d ∷ []) (suc zero) n four small within some = omega arith
left_less end (a ∷ b ∷ c ∷ d ∷ []) (suc (suc zero)) n four small within some = omega arith
left_less end (a ∷ b ∷ c ∷ d ∷ []) (suc (suc (suc zero))) n four small within some = omega arith
left_less end (a ∷ b ∷ c ∷ d ∷ []) (suc (suc (suc (suc i)))) n four small within some = absurd (omega arith)
left_less end (a ∷ b ∷ c ∷ d ∷ e ∷ next) i n four small within some = absurd (omega arith)
left_less end (a ∷ b ∷ c ∷ []) i n four small within some = absurd (omega arith)
left_less end (a ∷ b ∷ []) i n four small within some = absurd (omega arith)
left_less end (a ∷ []) i n four small within some = absurd (omega arith)
left_less end [] i n four small within some = absurd (omega arith)

-- the interval begins
pub opens : (robots : List Behaviour) (exes : List Executable) (next : List ℕ) (w : ℕ) (runners : List Runner)
    (arena : Arena) (s : BattleState)
    → AreRobotsOf exes robots → AreTurnNumbers next → length exes ≤ 4
    → ((i : ℕ) → i < length exes → i < 4 → get_or next i 0 ≡ i) →
    ((i : ℕ) → length exes ≤ i → i < 4 → 4 * w ≤ get_or next i 0)
    → HasReached runners exes arena s → HasCome robots exes next w runners arena s
opens robots exes next w runners arena s are turn_numbers most first past reached =
    let all = robots_length exes robots are in
    record {
      state = s;
      reached = reached;
      ends =
          like_same _ _
          (rest_all robots next (length exes) w s turn_numbers (sym all) most
          (λ i low. first i low (omega arith)) past);
    }

-- and ends
pub closes : (robots : List Behaviour) (exes : List Executable) (next : List ℕ) (w : ℕ) (runners : List Runner)
    (arena : Arena) (s : BattleState)
    → ((i : ℕ) → i < 4 → 4 * w ≤ get_or next i 0)
    → HasCome robots exes next w runners arena s → HasReached runners exes arena (cycles_without_updates robots w s)
closes robots exes next w runners arena s past come =
    let done : turns_left robots (is_turn_left next) 0 (4 * w) come.state ≡ come.state =
    rest_none robots (is_turn_left next) 0 (4 * w) come.state
    (λ t from to. left_not next t (omega (arith, past (t % 4) (omega arith), to))) in
    let like : IsLike come.state (cycles_without_updates robots w s) = rw done at come.ends in
    record {
      field = stands_like arena come.state.field (cycles_without_updates robots w s).field like.field
          come.reached.field;
      traces = rw like.traces come.reached.traces;
    }

-- the next turn is that of a robot
pub is_robot : (next : List ℕ) (turn_number end n : ℕ) → get_or next (turn_number % 4) 0 ≡ turn_number →
    turn_number < end
    → ((i : ℕ) → n ≤ i → i < 4 → end ≤ get_or next i 0) → turn_number % 4 < n
is_robot next turn_number end n own within past = elim (cases_lt (turn_number % 4) n) [
  | inl inside ↦ inside
  | inr outside ↦ absurd (omega (arith, own, within, past (turn_number % 4) outside (omega arith)))
]

pub past_set : (next : List ℕ) (r x end n : ℕ) → r < n → ((i : ℕ) → n ≤ i → i < 4 → end ≤ get_or next i 0)
    → (i : ℕ) → n ≤ i → i < 4 → end ≤ get_or (set next r x) i 0
past_set next r x end n inside past i high small =
    let other : i ≢ r = omega arith in
    rw (get_or-set_other next r i x 0 other) (past i high small)
