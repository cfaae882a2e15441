-- A pilot's turn is its robot's step, and what is played is the battle.
use Rattle.std.proofs.Common.{◌≡◌, ℕ, ℤ, ◌+◌, ◌<◌, ◌≤◌, ◌⊎◌, zero, suc, true, false, Bool, List, [], ◌∷◌, length, map, take, set, get_or, replicate, Some, refl, sym, ap, ◌∙◌, arith, inl, inr, ◌≢◌, ◌%◌}
use Rattle.std.specs.Prelude.{◌==◌, ◌||◌, nat_eq, nat_le, nat_lt, option_map, slice_get}
use Rattle.std.proofs.lemmas.Bool.{cases_Bool, cases_eq, true≢false}
use Rattle.std.proofs.lemmas.Bool.Decides.{nat_tests}
use Rattle.std.proofs.lemmas.List.{get_or-map, length-map, map-append, map-set, take_more_set}
use Rattle.std.proofs.lemmas.Option.{slice_get-get_or, slice_get-map}
use Rattle.std.proofs.Math.Seq.{map-set_same}
use Rattle.arena.specs.Field.{Field, is_alive, is_live_at, live_count}
use Rattle.arena.specs.Arena.{Robot, Arena, robot_of, is_live}
use Rattle.arena.specs.Representing.{RepresentsField}
use Rattle.arena.proofs.Represents.{body_at}
use Rattle.code.specs.declared.want.Want.{Want}
use Rattle.code.specs.declared.want.Want.TheVariants.{Ask, Quiet, Restart}
use Rattle.grammar.specs.Profile.{Profile}
use Rattle.grammar.specs.Tree.{File}
use Rattle.code.specs.Codes.{AreProgramsOf}
use Rattle.code.specs.Generation.{Program}
use Rattle.engine.specs.Executables.{Executable}
use Rattle.code.specs.Machine.{Machine, want_code}
use Rattle.code.specs.ReachedMachines.{IsReached}
use Rattle.code.proofs.Correct.{want_code_is_want}
use Rattle.battles.specs.Battle.{Behaviour, BattleState, first_passing, after_want, is_over, last_cycle, behaviour_at, state_after, robot_turn, turns}
use Rattle.battles.specs.Carrying.{AreRobotsOf, EachIsAheadOf, IsRobotOf, Runner}
use Rattle.battles.proofs.Cycles.{cycle_alone, cycle_updates, first_here, first_later, first_none, goes_on, over_if_few, state_more}
use Rattle.battles.proofs.Running.{at_end, end_at}
use Rattle.battles.proofs.States.{HasStepped, robot_at, robots_length, stands_at, turn_reached, turns_more}
use Rattle.battles.specs.Pairing.{paired, robots_of}
use Rattle.battles.proofs.Beginnings.{robots_are, stands_more}
use Rattle.watching.specs.Pilot.{Pilot, TakesTurn}
use Rattle.watching.specs.Games.{Game, HasCome, HasEnded, HaveTakenTurns}
use Rattle.watching.specs.Played.{EndsAt, HavePlayed, HaveUpdated, codes_of, engine_of, exes_of, plainly, runner_of, runners_of}

-- what a want makes of the field and of the machine
granted_takes : (program : Program) (i : ℕ) (trace : List ℤ) (w : Want) (machine : Machine) (before after : Arena)
    (f : Field) → TakesTurn program i trace w machine before after → RepresentsField before f
    → RepresentsField after (after_want w i f trace).0 × IsReached machine program (after_want w i f trace).1
unfolding after_want
granted_takes program i trace Quiet machine before after f (at, same) stands = (rw same stands, at)
granted_takes program i trace Restart machine before after f (at, same) stands = (rw same stands, at)
granted_takes program i trace (Ask intrinsic arguments) machine before after f takes stands =
    let taken = takes f stands in (taken.1, taken.0)

-- a live robot and a dead one
step_live : (r : Behaviour) (i : ℕ) (f : Field) (trace : List ℤ) → is_live_at f i ≡ true
    → robot_turn r i f trace ≡ after_want (r trace) i f trace
unfolding robot_turn
step_live r i f trace live = rw live refl

step_dead : (r : Behaviour) (i : ℕ) (f : Field) (trace : List ℤ) → is_live_at f i ≡ false →
    robot_turn r i f trace ≡ (f, trace)
unfolding robot_turn
step_dead r i f trace dead = rw dead refl

-- a robot wants what its program wants
pub wants_code : (r : Behaviour) (program : Program) (trace : List ℤ) → IsRobotOf (plainly program) r →
    r trace ≡ want_code program trace
wants_code r program trace is =
    ap (λ (q : Behaviour). q trace) is.wants ∙ sym (want_code_is_want is.profile is.file is.resolved trace)
    ∙ ap (λ (c : Program). want_code c trace) (sym is.program)

-- a pilot's turn, of a live robot and of a dead one
pub record HasTurned (i : ℕ) (program : Program) (old new : Machine) (before after : Arena) : Type 0 where
  pub live : (f : Field) → RepresentsField before f → is_live before i ≡ is_live_at f i
  pub dead : is_live before i ≡ false → (new ≡ old) × (after ≡ before)
  pub lives : is_live before i ≡ true → (trace : List ℤ) → IsReached old program trace
      → TakesTurn program i trace (want_code program trace) new before after

-- is the robot's step
turn_steps : (i : ℕ) (program : Program) (old new : Machine) (before after : Arena) (r : Behaviour) (f : Field)
    (trace : List ℤ) → HasTurned i program old new before after → IsRobotOf (plainly program) r →
    RepresentsField before f
    → IsReached old program trace
    → RepresentsField after (robot_turn r i f trace).0 × IsReached new program (robot_turn r i f trace).1
turn_steps i program old new before after r f trace turned is stands at = elim (cases_Bool (is_live before i)) [
  | inl live ↦
      let stepped = step_live r i f trace (sym (turned.live f stands) ∙ live) in
      let wanted = wants_code r program trace is in
      rw (stepped, wanted)
      (granted_takes program i trace (want_code program trace) new before after f (turned.lives live trace at) stands)
  | inr dead ↦
      let same = turned.dead dead in
      rw (step_dead r i f trace (sym (turned.live f stands) ∙ dead), same.0, same.1) (stands, at)
]

pub has_stepped : (i : ℕ) (program : Program) (old new : Machine) (before after : Arena)
    → HasTurned i program old new before after
    → HasStepped i (plainly program) (record { machine = engine_of old; ahead = 0 })
    (record { machine = engine_of new; ahead = 0 }) before after
has_stepped i program old new before after turned = record {
  field = λ r f trace is stands at.
      (turn_steps i program old new before after r f trace turned is stands
      (sym (end_at (record { machine = engine_of old; ahead = 0 }) (plainly program) trace refl at))).0;
  trace = λ r f trace is stands at.
      at_end (engine_of new) 0 (plainly program) _ refl
      (sym (turn_steps i program old new before after r f trace turned is stands
      (sym (end_at (record { machine = engine_of old; ahead = 0 }) (plainly program) trace refl at))).1);
}

-- one cycle more, without an update
pub cycle_plain : (robots : List Behaviour) (codes : List Program) (seats : List Pilot) (arena : Arena)
    (s : BattleState)
    (n : ℕ) → (n + 1) % 15 ≢ 0
    → HavePlayed codes seats arena (turns robots (length robots) (state_after robots s n))
    → HavePlayed codes seats arena (state_after robots s (n + 1))
cycle_plain robots codes seats arena s n plain played =
    rw (state_more robots s n, cycle_alone robots (n + 1) (state_after robots s n) plain) played

-- and with one
pub cycle_due : (robots : List Behaviour) (codes : List Program) (seats : List Pilot) (before after : Arena)
    (s : BattleState) (n : ℕ) (decides : Bool) → (n + 1) % 15 ≡ 0
    → HavePlayed codes seats before (turns robots (length robots) (state_after robots s n))
    → HaveUpdated (turns robots (length robots) (state_after robots s n)).field after decides
    → HavePlayed codes seats after (state_after robots s (n + 1))
cycle_due robots codes seats before after s n decides due played updated =
    rw (state_more robots s n, cycle_updates robots (n + 1) (state_after robots s n) due)
    (record { field = updated.stands; traces = played.traces })

pub over_due : (robots : List Behaviour) (s : BattleState) (n : ℕ) (arena : Arena) (decides : Bool) → (n + 1) % 15 ≡ 0
    → HaveUpdated (turns robots (length robots) (state_after robots s n)).field arena decides
    → is_over (n + 1) (state_after robots s (n + 1)) ≡ decides
over_due robots s n arena decides due updated =
    over_if_few (n + 1) (state_after robots s (n + 1)) due
    ∙ ap (λ (t : BattleState). nat_le (live_count t.field) 1)
    (state_more robots s n ∙ cycle_updates robots (n + 1) (state_after robots s n) due)
    ∙ sym updated.decided

-- So a cycle has ended, with an update or without one.
pub end_due : (robots : List Behaviour) (codes : List Program) (seats : List Pilot) (before after : Arena)
    (s : BattleState) (n : ℕ) (decides : Bool) → (n + 1) % 15 ≡ 0
    → ((f : Field) → RepresentsField before f → HaveUpdated f after decides)
    → HasEnded codes robots s n seats before after decides
end_due robots codes seats before after s n decides due updates = λ played.
    let updated = updates (turns robots (length robots) (state_after robots s n)).field played.field in (
      cycle_due robots codes seats before after s n decides due played updated,
      over_due robots s n after decides due updated,
    )

pub end_plain : (robots : List Behaviour) (codes : List Program) (seats : List Pilot) (arena : Arena)
    (s : BattleState) (n : ℕ) → (n + 1) % 15 ≢ 0 → HasEnded codes robots s n seats arena arena false
end_plain robots codes seats arena s n plain = λ played. (
  cycle_plain robots codes seats arena s n plain played,
  goes_on (n + 1) (state_after robots s (n + 1)) plain,
)

-- The least of some numbers that passes, or the last of them: no number that passes is less.
least : (passes : ℕ → Bool) (n count k : ℕ) → n < k → k ≤ n + count → passes k ≡ true → first_passing passes n count ≤ k
least passes n zero k above within here = absurd (omega arith)
least passes n (suc count) k above within here = elim (cases_Bool (passes (n + 1))) [
  | inl holds ↦ let now = first_here passes n count holds in omega (arith, now)
  | inr fails ↦
      let distinct : n + 1 ≢ k = λ same. true≢false (sym here ∙ ap passes (sym same) ∙ fails) in
      let later = first_later passes n count fails in
      let rest = least passes (n + 1) count k (omega (arith, distinct)) (omega arith) here in
      omega (arith, later, rest)
]

-- it passes, or is the last
passes_or_last : (passes : ℕ → Bool) (n count : ℕ) →
    (passes (first_passing passes n count) ≡ true) ⊎ (first_passing passes n count ≡ n + count)
passes_or_last passes n zero = inr (first_none passes n ∙ omega arith)
passes_or_last passes n (suc count) = elim (cases_Bool (passes (n + 1))) [
  | inl holds ↦ inl (ap passes (first_here passes n count holds) ∙ holds)
  | inr fails ↦
      let later = first_later passes n count fails in
      elim (passes_or_last passes (n + 1) count) [
        | inl here ↦ inl (ap passes later ∙ here)
        | inr last ↦ inr (later ∙ last ∙ omega arith)
      ]
]

no_more : (passes : ℕ → Bool) (n count : ℕ) → first_passing passes n count ≤ n + count
no_more passes n zero = let none = first_none passes n in omega (arith, none)
no_more passes n (suc count) = elim (cases_Bool (passes (n + 1))) [
  | inl holds ↦ let now = first_here passes n count holds in omega (arith, now)
  | inr fails ↦
      let later = first_later passes n count fails in
      let rest = no_more passes (n + 1) count in
      omega (arith, later, rest)
]

beyond : (passes : ℕ → Bool) (n count : ℕ) → 0 < count → n < first_passing passes n count
beyond passes n zero some = absurd (omega arith)
beyond passes n (suc zero) some = elim (cases_Bool (passes (n + 1))) [
  | inl holds ↦ let now = first_here passes n zero holds in omega (arith, now)
  | inr fails ↦
      let later = first_later passes n zero fails in
      let none = first_none passes (n + 1) in
      omega (arith, later, none)
]
beyond passes n (suc (suc count)) some = elim (cases_Bool (passes (n + 1))) [
  | inl holds ↦ let now = first_here passes n (suc count) holds in omega (arith, now)
  | inr fails ↦
      let later = first_later passes n (suc count) fails in
      let rest = beyond passes (n + 1) (suc count) (omega arith) in
      omega (arith, later, rest)
]

last_is : (robots : List Behaviour) (s : BattleState) (limit : ℕ)
    → last_cycle robots s limit ≡ first_passing (λ n. is_over n (state_after robots s n)) 0 limit
unfolding last_cycle
last_is robots s limit = refl

-- no match goes past its limit
pub last_within : (robots : List Behaviour) (s : BattleState) (limit : ℕ) → last_cycle robots s limit ≤ limit
last_within robots s limit =
    let last = last_is robots s limit in
    let most = no_more (λ n. is_over n (state_after robots s n)) 0 limit in
    omega (arith, last, most)

-- A match that has begun is over if its limit is 0.
pub ends_begun : (robots : List Behaviour) (s : BattleState) (limit : ℕ) → EndsAt (last_cycle robots s limit)
    (record { cycles = 0; is_over = nat_eq limit 0 })
ends_begun robots s limit =
    let last = last_is robots s limit in
    let most = no_more (λ n. is_over n (state_after robots s n)) 0 limit in
    elim (cases_eq limit 0) [
      | inl none ↦ (
        λ over. omega (arith, last, most, none),
        λ on. absurd (true≢false (sym (grind (arith, nat_tests)) ∙ on)),
      )
      | inr some ↦ (
        λ over. absurd (true≢false (sym over ∙ grind (arith, nat_tests))),
        λ on. let later = beyond (λ n. is_over n (state_after robots s n)) 0 limit (omega arith) in
            omega (arith, last, later),
      )
    ]

-- It is over after a further cycle that decides it, or that is the last of its limit.
pub ends_decided : (robots : List Behaviour) (s : BattleState) (n limit : ℕ) → n < limit → n < last_cycle robots s limit
    → (is_over (n + 1) (state_after robots s (n + 1)) ≡ true) ⊎ (n + 1 ≡ limit)
    → EndsAt (last_cycle robots s limit) (record { cycles = n + 1; is_over = true })
ends_decided robots s n limit within before ends =
    let last = last_is robots s limit in
    elim ends as (λ e. EndsAt (last_cycle robots s limit) (record { cycles = n + 1; is_over = true })) [
      | inl over ↦
          let first = least (λ k. is_over k (state_after robots s k)) 0 limit (n + 1) (omega arith) (omega arith) over
          in
          (λ is. omega (arith, last, first, before), λ on. absurd (true≢false on))
      | inr all ↦
          let most = no_more (λ k. is_over k (state_after robots s k)) 0 limit in
          (λ is. omega (arith, last, most, before, all), λ on. absurd (true≢false on))
    ]

-- and else it goes on
pub ends_later : (robots : List Behaviour) (s : BattleState) (n limit : ℕ) → n < limit → n < last_cycle robots s limit
    → is_over (n + 1) (state_after robots s (n + 1)) ≡ false → n + 1 ≢ limit
    → EndsAt (last_cycle robots s limit) (record { cycles = n + 1; is_over = false })
ends_later robots s n limit within before later less =
    let last = last_is robots s limit in
    let here : n + 1 ≢ last_cycle robots s limit = λ same.
    elim (passes_or_last (λ k. is_over k (state_after robots s k)) 0 limit) [
      | inl over ↦
          true≢false (sym over ∙ ap (λ k. is_over k (state_after robots s k)) (sym last ∙ sym same) ∙ later)
      | inr all ↦ less (same ∙ last ∙ all ∙ omega arith)
    ] in
    (λ over. absurd (true≢false (sym over)), λ on. omega (arith, before, here))

pub ends_next : (robots : List Behaviour) (s : BattleState) (n limit : ℕ) (decided ended : Bool) → n < limit
    → n < last_cycle robots s limit → is_over (n + 1) (state_after robots s (n + 1)) ≡ decided
    → ended ≡ (decided || n + 1 == limit)
    → EndsAt (last_cycle robots s limit) (record { cycles = n + 1; is_over = ended })
ends_next robots s n limit true ended within before over is =
    rw is (ends_decided robots s n limit within before (inl over))
ends_next robots s n limit false ended within before over is = elim (cases_eq (n + 1) limit) [
  | inl all ↦
      let yes : (n + 1 == limit) ≡ true = grind (arith, nat_tests) in
      rw (is, yes) (ends_decided robots s n limit within before (inr all))
  | inr less ↦
      let no : (n + 1 == limit) ≡ false = grind (arith, nat_tests) in
      rw (is, no) (ends_later robots s n limit within before over less)
]

-- A game whose turns were taken has come further by a cycle when that ends.
pub comes_on : (codes : List Program) (robots : List Behaviour) (s : BattleState) (seats : List Pilot)
    (old new : Game) (decided : Bool) → old.ending.cycles < old.limit → old.ending.is_over ≡ false
    → new.ending.cycles ≡ old.ending.cycles + 1 → new.limit ≡ old.limit
    → new.ending.is_over ≡ (decided || old.ending.cycles + 1 == old.limit)
    → HasEnded codes robots s old.ending.cycles seats old.arena new.arena decided
    → HaveTakenTurns codes robots s seats old → HasCome codes robots s seats new
comes_on codes robots s seats old new decided within on more same over end turned =
    let ended = end turned.played in
    let before = turned.ends.1 on in
    let ends = ends_next robots s old.ending.cycles old.limit decided new.ending.is_over within before ended.1 over in
    record { played = rw more ended.0; ends = rw (same, more) ends }

-- the programs of pilots stay when one of them goes on
pub codes_stay : (seats : List Pilot) (i : ℕ) (none new : Pilot) → new.code ≡ (get_or seats i none).code
    → codes_of (set seats i new) ≡ codes_of seats
codes_stay seats i none new same = map-set_same (λ (seat : Pilot). seat.code) seats i new none same

pub codes_length : (seats : List Pilot) → length (codes_of seats) ≡ length seats
codes_length seats = length-map seats (λ (seat : Pilot). seat.code)

pub seats_length : (seats others : List Pilot) → codes_of others ≡ codes_of seats → length seats ≡ length others
seats_length seats others same = sym (codes_length seats) ∙ sym (ap length same) ∙ codes_length others

-- the program of one of them
code_here : (seats : List Pilot) (i : ℕ) (none : Pilot) → i < length seats
    → slice_get (codes_of seats) i ≡ Some (get_or seats i none).code
code_here seats i none inside =
    slice_get-map (λ (seat : Pilot). seat.code) seats i
    ∙ ap (option_map (λ (seat : Pilot). seat.code)) (slice_get-get_or seats i none inside)

exe_here : (codes : List Program) (i : ℕ) (program : Program) → slice_get codes i ≡ Some program
    → slice_get (exes_of codes) i ≡ Some (plainly program)
exe_here codes i program here = slice_get-map plainly codes i ∙ ap (option_map plainly) here

-- the robots so far have had their turns, and one more
pub one_turned : (codes : List Program) (robots : List Behaviour) (seats : List Pilot) (i : ℕ) (none new : Pilot)
    (before after : Arena) (s : BattleState) → AreRobotsOf (exes_of codes) robots → codes_of seats ≡ codes
    → i < length seats
    → HasTurned i (get_or seats i none).code (get_or seats i none).state new.state before after
    → HavePlayed codes seats before (turns robots i s) →
    HavePlayed codes (set seats i new) after (turns robots (i + 1) s)
one_turned codes robots seats i none new before after s are same inside turned played =
    let old = get_or seats i none in
    let here : slice_get codes i ≡ Some old.code = rw same at (code_here seats i none inside) in
    let runner : get_or (runners_of seats) i (runner_of none) ≡ runner_of old =
    get_or-map runner_of seats i none (runner_of none) inside in
    let exe = exe_here codes i old.code here in
    let stepped : HasStepped i (plainly old.code) (get_or (runners_of seats) i (runner_of none)) (runner_of new) before
    after =
    rw runner (has_stepped i old.code old.state new.state before after turned) in
    rw (map-set runner_of seats i new, turns_more robots i s)
    (turn_reached (exes_of codes) robots (runners_of seats) before after (turns robots i s) i (plainly old.code)
    (runner_of none) (runner_of new) are played exe stepped)

-- the pilots so far are at their start, and one more
pub one_begun : (codes : List Program) (seats : List Pilot) (i : ℕ) (none new : Pilot) → codes_of seats ≡ codes
    → i < length seats → IsReached new.state (get_or seats i none).code []
    → EachIsAheadOf (runners_of (take i seats)) (take i (exes_of codes)) (replicate i [])
    → EachIsAheadOf (runners_of (take (i + 1) (set seats i new))) (take (i + 1) (exes_of codes)) (replicate (i + 1) [])
one_begun codes seats i none new same inside begins begun =
    let program = (get_or seats i none).code in
    let here : slice_get codes i ≡ Some program = rw same at (code_here seats i none inside) in
    rw (take_more_set seats i new inside, map-append runner_of (take i seats) (new ∷ []))
    (stands_more (runners_of (take i seats)) (exes_of codes) i (runner_of new) (plainly program) begun
    (exe_here codes i program here) (at_end (engine_of new.state) 0 (plainly program) [] refl (sym begins)))

each_length : (runners : List Runner) (exes : List Executable) (traces : List (List ℤ)) →
    EachIsAheadOf runners exes traces
    → length traces ≡ length runners
each_length [] [] [] each = refl
each_length (runner ∷ runners) (exe ∷ exes) (trace ∷ traces) each = ap suc (each_length runners exes traces each.1)
each_length _ _ _ each = absurd each

-- A pilot's machine is where the replies of its robot lead.
pub seat_reached : (codes : List Program) (seats : List Pilot) (arena : Arena) (s : BattleState) (i : ℕ) (none : Pilot)
    → codes_of seats ≡ codes → i < length seats → HavePlayed codes seats arena s
    → IsReached (get_or seats i none).state (get_or seats i none).code (get_or s.traces i [])
seat_reached codes seats arena s i none same inside played =
    let seat = get_or seats i none in
    let here : slice_get codes i ≡ Some seat.code = rw same at (code_here seats i none inside) in
    let runner : get_or (runners_of seats) i (runner_of none) ≡ runner_of seat =
    get_or-map runner_of seats i none (runner_of none) inside in
    let at = stands_at (runners_of seats) (exes_of codes) s.traces i (plainly seat.code) (runner_of none) played.traces
    (exe_here codes i seat.code here) in
    sym (end_at (runner_of seat) (plainly seat.code) (get_or s.traces i []) refl (rw runner at at))

-- and its robot wants what its program wants
pub robot_wants : (codes : List Program) (robots : List Behaviour) (seats : List Pilot) (i : ℕ) (none : Pilot)
    (trace : List ℤ) → AreRobotsOf (exes_of codes) robots → codes_of seats ≡ codes → i < length seats
    → behaviour_at robots i trace ≡ want_code (get_or seats i none).code trace
unfolding behaviour_at
robot_wants codes robots seats i none trace are same inside =
    let program = (get_or seats i none).code in
    let here : slice_get codes i ≡ Some program = rw same at (code_here seats i none inside) in
    wants_code (get_or robots i (λ trace. Quiet)) program trace
    (robot_at (exes_of codes) robots i (plainly program) (λ trace. Quiet) are (exe_here codes i program here))

pub some_same : {A : Type 0} {x y : A} → Some x ≡ Some y → x ≡ y
some_same e = cc

-- a pilot keeps its program
pub code_same : (codes : List Program) (seats others : List Pilot) (i : ℕ) (none new : Pilot) → codes_of seats ≡ codes
    → codes_of others ≡ codes → i < length seats → (get_or others i new).code ≡ (get_or seats i none).code
code_same codes seats others i none new same still inside =
    let count = seats_length seats others (still ∙ sym same) in
    some_same (sym (rw still at (code_here others i new (omega (arith, inside, count))))
    ∙ rw same at (code_here seats i none inside))

-- there are as many robots and traces as pilots
pub robots_as_seats : (codes : List Program) (robots : List Behaviour) (seats : List Pilot)
    → AreRobotsOf (exes_of codes) robots → codes_of seats ≡ codes → length robots ≡ length seats
robots_as_seats codes robots seats are same =
    robots_length (exes_of codes) robots are ∙ length-map codes plainly ∙ sym (ap length same) ∙ codes_length seats

pub traces_as_seats : (codes : List Program) (seats : List Pilot) (arena : Arena) (s : BattleState)
    → HavePlayed codes seats arena s → length s.traces ≡ length seats
traces_as_seats codes seats arena s played =
    each_length (runners_of seats) (exes_of codes) s.traces played.traces ∙ length-map seats runner_of

-- a robot of the field lives if it is alive
pub lives_are : (g : Arena) (f : Field) (i : ℕ) → RepresentsField g f → is_live g i ≡ is_live_at f i
unfolding is_live is_live_at is_alive robot_of
lives_are g f i stands = ap (λ (b : Robot). nat_lt b.damage 100) (body_at g f i stands)

-- what plain machines run has these codes, so their robots want what the files' trees want
plain_programs : (codes : List Program) → map (λ (e : Executable). e.program) (exes_of codes) ≡ codes
plain_programs [] = refl
plain_programs (program ∷ codes) = ap (λ (l : List Program). program ∷ l) (plain_programs codes)

pub plain_robots : (codes : List Program) (p : Profile) (files : List File) → AreProgramsOf codes p files
    → AreRobotsOf (exes_of (paired codes)) (robots_of p files)
plain_robots codes p files are = robots_are (exes_of (paired codes)) codes p files (plain_programs (paired codes)) are
