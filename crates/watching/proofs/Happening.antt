-- What two glances show is what happens between two states.
use Rattle.std.proofs.Common.{◌≡◌, ℕ, ◌+◌, ◌<◌, Bool, true, false, ℤ, List, length, get_or, Some, refl, sym, ap, ◌∙◌, arith}
use Rattle.std.specs.Prelude.{◌&&◌, option_map, slice_get}
use Rattle.std.proofs.lemmas.Option.{slice_get-get_or, slice_get-map}
use Rattle.arena.specs.Field.{Field, damage_of, robot_at}
use Rattle.arena.specs.Representing.{RepresentsField}
use Rattle.grammar.specs.declared.resolved_names.Intrinsic.{Intrinsic}
use Rattle.battles.specs.Battle.{Behaviour, BattleState, is_due, state_after, turns}
use Rattle.battles.specs.Carrying.{AreRobotsOf}
use Rattle.code.specs.declared.want.Want.TheVariants.{Ask}
use Rattle.code.specs.Generation.{Program}
use Rattle.code.specs.Machine.{Machine}
use Rattle.watching.specs.Games.{Game, HasCome, HaveTakenTurns}
use Rattle.watching.specs.Pilot.{Pilot}
use Rattle.watching.specs.declared.games.PlayEnd.{PlayEnd}
use Rattle.watching.specs.Played.{codes_of, exes_of}
use Rattle.watching.proofs.Playing.{code_same, lives_are, robots_as_seats, seat_reached, some_same}
use Rattle.watching.specs.declared.sought.Glance.{Glance}
use Rattle.watching.specs.declared.sought.Sought.{Sought}
use Rattle.watching.specs.declared.sought.Sought.TheVariants.{Address, Question, Restart, Hurt, Hit, Change, Value, LocalChange, LocalValue}
use Rattle.watching.specs.Hits.{hits}
use Rattle.watching.specs.Moments.{last_of, replies_of, wanted}
use Rattle.watching.specs.Searches.{Happens, IsGlanced, IsOneLife, Seems, Shows, state_at, value_of}
use Rattle.watching.proofs.Asking.{reply_is, wanted_is}

-- two glances see a robot at two states, and it hits another one in the cycle between them or doesn't
pub record See (robots : List Behaviour) (program : Program) (i cycle : ℕ) (sought : Sought) (now later : BattleState)
    (before after : Glance) (is_hit : Bool) : Type 0 where
  pub hit : is_hit ≡ (is_due cycle && hits (turns robots (length robots) now).field i)
  pub want : before.wanted ≡ wanted robots i now
  pub damage : before.damage ≡ damage_of (robot_at now.field i)
  pub damage_then : after.damage ≡ damage_of (robot_at later.field i)
  pub value : before.value ≡ value_of sought (state_at program i now)
  pub value_then : after.value ≡ value_of sought (state_at program i later)
  pub address : before.address ≡ (state_at program i now).at
  pub address_then : after.address ≡ (state_at program i later).at
  pub home : before.home ≡ (state_at program i now).home
  pub home_then : after.home ≡ (state_at program i later).home
  pub frames : after.frames ≡ length (state_at program i later).frames
  pub word : (k : Intrinsic) (a : List ℤ) → wanted robots i now ≡ Ask k a → after.word ≡ last_of (replies_of later i)

-- one life stays one where the numbers are the same
one_life : (marks : List Bool) (a b c d a' b' c' d' : ℕ) → a ≡ a' → b ≡ b' → c ≡ c' → d ≡ d'
    → IsOneLife marks a b c d → IsOneLife marks a' b' c' d'
one_life marks a b c d a' b' c' d' p q r t (here, there, same) =
    (ap (λ n. get_or marks n false) (sym p) ∙ here, ap (λ n. get_or marks n false) (sym r) ∙ there, sym q ∙ same ∙ t)

pub shows_so : (sought : Sought) (robots : List Behaviour) (program : Program) (i cycle : ℕ) (now later : BattleState)
    (before after : Glance) (is_hit : Bool) → See robots program i cycle sought now later before after is_hit
    → Seems sought before after is_hit → Shows sought robots program i cycle now later
shows_so (Address marks most) robots program i cycle now later before after is_hit see (here, few) =
    (ap (λ n. get_or marks.now n false) (sym see.address_then) ∙ here, omega (arith, see.frames, few))
shows_so (Question k least most) robots program i cycle now later before after is_hit see ((a, asks), low, high) =
    let asked = sym see.want ∙ asks in
    let word = see.word k a asked in ((a, asked), rw word at low, rw word at high)
shows_so Restart robots program i cycle now later before after is_hit see restarts = sym see.want ∙ restarts
shows_so Hurt robots program i cycle now later before after is_hit see grows =
    omega (arith, see.damage, see.damage_then, grows)
shows_so Hit robots program i cycle now later before after is_hit see is = sym see.hit ∙ is
shows_so (Change variable) robots program i cycle now later before after is_hit see differs =
    λ same. differs (see.value_then ∙ same ∙ sym see.value)
shows_so (Value variable value) robots program i cycle now later before after is_hit see is = sym see.value_then ∙ is
shows_so (LocalChange marks number) robots program i cycle now later before after is_hit see (one, differs) = (
  one_life marks.now before.address before.home after.address after.home (state_at program i now).at
      (state_at program i now).home (state_at program i later).at (state_at program i later).home see.address see.home
      see.address_then see.home_then one,
  λ same. differs (see.value_then ∙ same ∙ sym see.value),
)
shows_so (LocalValue marks number value) robots program i cycle now later before after is_hit see (here, is) =
    (ap (λ n. get_or marks.now n false) (sym see.address_then) ∙ here, sym see.value_then ∙ is)

pub seems_so : (sought : Sought) (robots : List Behaviour) (program : Program) (i cycle : ℕ) (now later : BattleState)
    (before after : Glance) (is_hit : Bool) → See robots program i cycle sought now later before after is_hit
    → Shows sought robots program i cycle now later → Seems sought before after is_hit
seems_so (Address marks most) robots program i cycle now later before after is_hit see (here, few) =
    (ap (λ n. get_or marks.now n false) see.address_then ∙ here, omega (arith, see.frames, few))
seems_so (Question k least most) robots program i cycle now later before after is_hit see ((a, asked), low, high) =
    let word = see.word k a asked in ((a, see.want ∙ asked), rw word low, rw word high)
seems_so Restart robots program i cycle now later before after is_hit see restarts = see.want ∙ restarts
seems_so Hurt robots program i cycle now later before after is_hit see grows =
    omega (arith, see.damage, see.damage_then, grows)
seems_so Hit robots program i cycle now later before after is_hit see is = see.hit ∙ is
seems_so (Change variable) robots program i cycle now later before after is_hit see differs =
    λ same. differs (sym see.value_then ∙ same ∙ see.value)
seems_so (Value variable value) robots program i cycle now later before after is_hit see is = see.value_then ∙ is
seems_so (LocalChange marks number) robots program i cycle now later before after is_hit see (one, differs) = (
  one_life marks.now (state_at program i now).at (state_at program i now).home (state_at program i later).at
      (state_at program i later).home before.address before.home after.address after.home (sym see.address)
      (sym see.home)
      (sym see.address_then) (sym see.home_then) one,
  λ same. differs (sym see.value_then ∙ same ∙ see.value),
)
seems_so (LocalValue marks number value) robots program i cycle now later before after is_hit see (here, is) =
    (ap (λ n. get_or marks.now n false) see.address_then ∙ here, see.value_then ∙ is)

-- glances before and after a cycle do so
pub glances_see : (codes : List Program) (robots : List Behaviour) (s : BattleState) (seats others : List Pilot) (i : ℕ)
    (none new : Pilot) (game next : Game) (program : Program) (sought : Sought) (before after : Glance) (is_hit : Bool)
    → AreRobotsOf (exes_of codes) robots → codes_of seats ≡ codes → codes_of others ≡ codes → i < length seats
    → HasCome codes robots s seats game → HasCome codes robots s others next
    → next.ending.cycles ≡ game.ending.cycles + 1 → (get_or seats i none).code ≡ program
    → IsGlanced game (get_or seats i none) i sought before → IsGlanced next (get_or others i new) i sought after
    → is_hit
    ≡
    (is_due (game.ending.cycles + 1) &&
    hits (turns robots (length robots) (state_after robots s game.ending.cycles)).field i)
    → See robots program i (game.ending.cycles + 1) sought (state_after robots s game.ending.cycles)
    (state_after robots s (game.ending.cycles + 1)) before after is_hit
glances_see codes robots s seats others i none new game next program sought before after is_hit are same still inside
    come came one is first second hit =
    let now = state_after robots s game.ending.cycles in
    let later = state_after robots s (game.ending.cycles + 1) in
    let old = get_or seats i none in
    let seat = get_or others i new in
    let count : length others ≡ length seats =
    sym (robots_as_seats codes robots others are still) ∙ robots_as_seats codes robots seats are same in
    let old_at : old.state ≡ state_at program i now =
    rw is at (seat_reached codes seats game.arena now i none same inside come.played) in
    let kept : seat.code ≡ program = code_same codes seats others i none new same still inside ∙ is in
    let new_at : seat.state ≡ state_at program i later =
    rw (one, kept) at (seat_reached codes others next.arena (state_after robots s next.ending.cycles) i new still
    (omega (arith, inside, count)) came.played) in
    record {
      hit = hit;
      want = wanted_is codes robots seats game.arena s i none before.wanted are same inside game come refl first.wanted;
      damage = first.damage now.field come.played.field;
      damage_then = rw one at (second.damage (state_after robots s next.ending.cycles).field came.played.field);
      value = first.value ∙ ap (value_of sought) old_at;
      value_then = second.value ∙ ap (value_of sought) new_at;
      address = first.address ∙ ap (λ (t : Machine). t.at) old_at;
      address_then = second.address ∙ ap (λ (t : Machine). t.at) new_at;
      home = first.home ∙ ap (λ (t : Machine). t.home) old_at;
      home_then = second.home ∙ ap (λ (t : Machine). t.home) new_at;
      frames = second.frames ∙ ap (λ (t : Machine). length t.frames) new_at;
      word = λ k a asks.
          second.word
          ∙ reply_is codes robots s seats others i none new game next k a are same still inside come came one asks;
    }

-- the program of the robot of a number
pub code_is : (seats : List Pilot) (i : ℕ) (none : Pilot) (program : Program) → i < length seats
    → slice_get (codes_of seats) i ≡ Some program → (get_or seats i none).code ≡ program
code_is seats i none program inside here =
    some_same (sym (slice_get-map (λ (seat : Pilot). seat.code) seats i
    ∙ ap (option_map (λ (seat : Pilot). seat.code)) (slice_get-get_or seats i none inside)) ∙ here)

-- So what seems to happen happens, and nothing else does: the robots took their turns, and the cycle was ended.
pub happens_so : (codes : List Program) (robots : List Behaviour) (s : BattleState) (seats others : List Pilot) (i : ℕ)
    (none new : Pilot) (game turned next : Game) (program : Program) (sought : Sought) (before after : Glance)
    (is_hit : Bool) → AreRobotsOf (exes_of codes) robots → codes_of seats ≡ codes → codes_of others ≡ codes
    → i < length seats → HasCome codes robots s seats game → HaveTakenTurns codes robots s others turned
    → HasCome codes robots s others next → turned.ending ≡ game.ending
    → next.ending.cycles ≡ turned.ending.cycles + 1 → slice_get codes i ≡ Some program
    → IsGlanced game (get_or seats i none) i sought before → IsGlanced next (get_or others i new) i sought after
    → ((f : Field) → RepresentsField turned.arena f → is_hit ≡ (is_due (turned.ending.cycles + 1) && hits f i))
    → ((before.is_alive ≡ true) × Seems sought before after is_hit
    → Happens robots program s i sought game.ending.cycles)
    × (Happens robots program s i sought game.ending.cycles
    → (before.is_alive ≡ true) × Seems sought before after is_hit)
happens_so codes robots s seats others i none new game turned next program sought before after is_hit are same still
    inside come took came ending one here first second hit =
    let now = state_after robots s game.ending.cycles in
    let later = state_after robots s (game.ending.cycles + 1) in
    let is = code_is seats i none program inside (rw same here) in
    let see =
    glances_see codes robots s seats others i none new game next program sought before after is_hit are same still
    inside come came (one ∙ ap (λ (e : PlayEnd). e.cycles + 1) ending) is first second
    (rw ending at (hit (turns robots (length robots) (state_after robots s turned.ending.cycles)).field
    took.played.field)) in
    let lives_now = first.alive ∙ lives_are game.arena now.field i come.played.field in (
      λ seems. record {
        lives = sym lives_now ∙ seems.0;
        shows = shows_so sought robots program i (game.ending.cycles + 1) now later before after is_hit see seems.1;
      },
      λ happens. (
        lives_now ∙ happens.lives,
        seems_so sought robots program i (game.ending.cycles + 1) now later before after is_hit see happens.shows,
      ),
    )
