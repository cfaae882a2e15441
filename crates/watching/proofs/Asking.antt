-- The reply to a question is on top of the machine's stack, and is the last one that the robot got.
use Rattle.std.proofs.Common.{◌≡◌, ℕ, ◌+◌, ◌-◌, ◌<◌, Bool, true, false, ℤ, pos, List, [], ◌∷◌, ◌++◌, length, take, get_or, Option, Some, inl, inr, refl, sym, ap, ◌∙◌, arith}
use Rattle.std.specs.Prelude.{if◌then◌else◌}
use Rattle.std.proofs.lemmas.Bool.{cases_Bool}
use Rattle.std.proofs.lemmas.List.{length-append}
use Rattle.arena.specs.Field.{is_live_at}
use Rattle.arena.specs.Arena.{Arena, is_live}
use Rattle.grammar.specs.declared.resolved_names.Callee.TheVariants as callee
use Rattle.grammar.specs.declared.resolved_names.Intrinsic.{Intrinsic}
use Rattle.code.specs.declared.instr.Instr.{Instr}
use Rattle.code.specs.declared.instr.Instr.TheVariants.{Fcall}
use Rattle.code.specs.declared.want.Want.{Want}
use Rattle.code.specs.declared.want.Want.TheVariants.{Ask, Quiet, Restart}
use Rattle.code.specs.Generation.{Program}
use Rattle.code.specs.Machine.{Machine, machine_after, done_with, event_of, frame_of, instr_at, is_fitting, reached, started_machine, want_code, want_next}
use Rattle.code.specs.ReachedMachines.{IsReached}
use Rattle.code.proofs.Machines.{reached-last}
use Rattle.battles.specs.Battle.{Behaviour, BattleState, behaviour_at, state_after}
use Rattle.battles.specs.Carrying.{AreRobotsOf}
use Rattle.watching.specs.Games.{Game, HasCome}
use Rattle.watching.specs.Pilot.{Pilot}
use Rattle.watching.specs.Played.{codes_of, exes_of}
use Rattle.watching.proofs.Playing.{code_same, lives_are, robot_wants, robots_as_seats, seat_reached, traces_as_seats}
use Rattle.watching.specs.Moments.{asked_in, last_of, question_in, replies_of, wanted}
use Rattle.watching.proofs.Replies.{reply_comes}

-- the last of some numbers with one after them
at_end : (l : List ℤ) (x : ℤ) → get_or (l ++ x ∷ []) (length l) (pos 0) ≡ x
at_end [] x = refl
at_end (y ∷ l) x = at_end l x

last_one : (l : List ℤ) (x : ℤ) → last_of (l ++ x ∷ []) ≡ x
last_one l x =
    let end : length (l ++ x ∷ []) - 1 ≡ length l = omega (arith, length-append l (x ∷ [])) in
    ap (λ n. get_or (l ++ x ∷ []) n (pos 0)) end ∙ at_end l x

-- what asks fits
asks_if : (fits : Bool) (w : Want) (k : Intrinsic) (a : List ℤ) → (if fits then w else Restart) ≡ Ask k a
    → (fits ≡ true) × (w ≡ Ask k a)
asks_if true w k a asks = (refl, asks)
asks_if false w k a asks = absurd (cc)

-- after it the reply is on top
reply_done : (program : Program) (reply : ℤ) (s : Machine) (o : Option Instr) (k : Intrinsic) (a : List ℤ)
    → event_of s o ≡ Ask k a → last_of (done_with program reply s o).words ≡ reply
reply_done program reply s (Some (Fcall (callee.Intrinsic i))) k a asks =
    last_one (take (frame_of s.frames).base s.words) reply
reply_done program reply s _ k a asks = absurd (cc)

reply_on_top : (program : Program) (reply : ℤ) (s : Machine) (k : Intrinsic) (a : List ℤ)
    → want_next program s ≡ Ask k a → last_of (machine_after program reply s).words ≡ reply
reply_on_top program reply s k a asks =
    let o = instr_at program s.at in
    let asked = asks_if (is_fitting program s o) (event_of s o) k a asks in
    ap (λ (fits : Bool). last_of (if fits then done_with program reply s o else s).words) asked.0
    ∙ reply_done program reply s o k a asked.1

-- a question has the reply that is given, and no other want has one
asked_alike : (w : Want) (cycle : ℕ) (one other : ℤ)
    → ((k : Intrinsic) (a : List ℤ) → w ≡ Ask k a → one ≡ other) → asked_in w cycle one ≡ asked_in w cycle other
asked_alike (Ask k a) cycle one other same = ap (λ reply. asked_in (Ask k a) cycle reply) (same k a refl)
asked_alike Quiet cycle one other same = refl
asked_alike Restart cycle one other same = refl

-- what a robot wants of the next cycle, by its machine
pub wanted_is : (codes : List Program) (robots : List Behaviour) (seats : List Pilot) (arena : Arena) (s : BattleState)
    (i : ℕ) (none : Pilot) (w : Want) → AreRobotsOf (exes_of codes) robots → codes_of seats ≡ codes → i < length seats
    → (game : Game) → HasCome codes robots s seats game → game.arena ≡ arena
    → ((trace : List ℤ) → IsReached (get_or seats i none).state (get_or seats i none).code trace
    → w ≡ (if is_live arena i then want_code (get_or seats i none).code trace else Quiet))
    → w ≡ wanted robots i (state_after robots s game.ending.cycles)
unfolding wanted
wanted_is codes robots seats arena s i none w are same inside game come is by =
    let now = state_after robots s game.ending.cycles in
    let at = seat_reached codes seats game.arena now i none same inside come.played in
    let live : is_live arena i ≡ is_live_at now.field i =
    ap (λ (g : Arena). is_live g i) (sym is) ∙ lives_are game.arena now.field i come.played.field in
    by (replies_of now i) at
    ∙ ap (λ (b : Bool). if b then want_code (get_or seats i none).code (replies_of now i) else Quiet) live
    ∙ ap (λ (v : Want). if is_live_at now.field i then v else Quiet)
    (sym (robot_wants codes robots seats i none (replies_of now i) are same inside))

-- a robot that is found to ask lives, and asks by its replies
asks_live : (robots : List Behaviour) (i : ℕ) (s : BattleState) (k : Intrinsic) (a : List ℤ) →
    wanted robots i s ≡ Ask k a
    → (is_live_at s.field i ≡ true) × (behaviour_at robots i (replies_of s i) ≡ Ask k a)
unfolding wanted
asks_live robots i s k a asks = elim (cases_Bool (is_live_at s.field i)) [
  | inl live ↦ (live, rw live at asks)
  | inr dead ↦ absurd (let quiet : Quiet ≡ Ask k a = rw dead at asks in cc)
]

-- After a question of the next cycle the machine has the robot's last reply on top.
pub reply_is : (codes : List Program) (robots : List Behaviour) (s : BattleState) (seats others : List Pilot) (i : ℕ)
    (none new : Pilot) (game next : Game) (k : Intrinsic) (a : List ℤ) → AreRobotsOf (exes_of codes) robots
    → codes_of seats ≡ codes → codes_of others ≡ codes → i < length seats → HasCome codes robots s seats game
    → HasCome codes robots s others next → next.ending.cycles ≡ game.ending.cycles + 1
    → wanted robots i (state_after robots s game.ending.cycles) ≡ Ask k a
    → last_of (get_or others i new).state.words
    ≡ last_of (replies_of (state_after robots s (game.ending.cycles + 1)) i)
reply_is codes robots s seats others i none new game next k a are same still inside come came one asks =
    let n = game.ending.cycles in
    let now = state_after robots s n in
    let later = state_after robots s (n + 1) in
    let old = get_or seats i none in
    let seat = get_or others i new in
    let count : length others ≡ length seats =
    sym (robots_as_seats codes robots others are still) ∙ robots_as_seats codes robots seats are same in
    let old_at : IsReached old.state old.code (replies_of now i) =
    seat_reached codes seats game.arena now i none same inside come.played in
    let new_at : IsReached seat.state seat.code (replies_of later i) =
    rw one at (seat_reached codes others next.arena (state_after robots s next.ending.cycles) i new still
    (omega (arith, inside, count)) came.played) in
    let kept : seat.code ≡ old.code = code_same codes seats others i none new same still inside in
    let asked = asks_live robots i now k a asks in
    let comes = reply_comes robots i n s k a
    (omega (arith, inside, robots_as_seats codes robots seats are same))
    (omega (arith, inside, traces_as_seats codes seats game.arena now come.played)) asked.0 asked.1 in
    let wants : want_next old.code old.state ≡ Ask k a =
    ap (want_next old.code) old_at
    ∙ sym (robot_wants codes robots seats i none (replies_of now i) are same inside) ∙ asked.1 in
    let stands : seat.state ≡ machine_after old.code comes.0 old.state =
    new_at ∙ ap (λ (c : Program). reached c (started_machine c) (replies_of later i)) kept
    ∙ ap (reached old.code (started_machine old.code)) comes.1
    ∙ reached-last old.code (started_machine old.code) (replies_of now i) comes.0
    ∙ ap (machine_after old.code comes.0) (sym old_at) in
    ap (λ (t : Machine). last_of t.words) stands
    ∙ reply_on_top old.code comes.0 old.state k a wants
    ∙ sym (last_one (replies_of now i) comes.0)
    ∙ ap last_of (sym comes.1)

-- The question of the next cycle, from its want before and the machine after it.
pub question_is : (codes : List Program) (robots : List Behaviour) (s : BattleState) (seats others : List Pilot) (i : ℕ)
    (none new : Pilot) (w : Want) (game next : Game) → AreRobotsOf (exes_of codes) robots → codes_of seats ≡ codes
    → codes_of others ≡ codes → i < length seats → HasCome codes robots s seats game
    → HasCome codes robots s others next → next.ending.cycles ≡ game.ending.cycles + 1
    → w ≡ wanted robots i (state_after robots s game.ending.cycles)
    → asked_in w next.ending.cycles (last_of (get_or others i new).state.words)
    ≡ question_in robots i s game.ending.cycles
unfolding question_in
question_is codes robots s seats others i none new w game next are same still inside come came one is =
    let n = game.ending.cycles in
    let now = state_after robots s n in
    let top = last_of (get_or others i new).state.words in
    ap (λ (m : ℕ). asked_in w m top) one
    ∙ ap (λ (v : Want). asked_in v (n + 1) top) is
    ∙ asked_alike (wanted robots i now) (n + 1) top (last_of (replies_of (state_after robots s (n + 1)) i))
    (λ k a asks. reply_is codes robots s seats others i none new game next k a are same still inside come came one asks)
