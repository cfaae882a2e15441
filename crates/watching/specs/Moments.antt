-- Moments of a match: where a robot is after a cycle, and what it asked last.
use Rattle.std.specs.Prelude.{◌≡◌, ℕ, ℤ, pos, zero, suc, ◌+◌, ◌-◌, min, Bool, if◌then◌else◌, List, [], length, slice_get, slice_index_or, Option, Some, None}
use Rattle.std.specs.Option.{option_or}
use Rattle.arena.specs.Field.{is_live_at}
use Rattle.arena.specs.Arena.{is_live}
use Rattle.battles.specs.Battle.{Behaviour, BattleState, last_cycle, behaviour_at, state_after}
use Rattle.code.specs.declared.cause.Cause.{Cause}
use Rattle.code.specs.declared.want.Want.{Want}
use Rattle.code.specs.declared.want.Want.TheVariants.{Ask, Quiet}
use Rattle.code.specs.Causes.{cause_next}
use Rattle.code.specs.Generation.{Program}
use Rattle.code.specs.Machine.{want_code}
use Rattle.code.specs.ReachedMachines.{IsReached}
use Rattle.watching.specs.Games.{Game, HasCome}
use Rattle.watching.specs.Pilot.{Pilot}
use Rattle.watching.specs.Played.{codes_of}
use Rattle.watching.specs.declared.asked.Asked.{Asked}
use Rattle.watching.specs.declared.moment.Moment.{Moment}

-- the replies that a robot of a state got since it began
abbrev pub replies_of : BattleState → ℕ → List ℤ
replies_of state i = slice_index_or state.traces i []

-- what a robot wants of the cycle after a state: a dead one wants nothing
unfoldable pub wanted : List Behaviour → ℕ → BattleState → Want
wanted robots i state = if is_live_at state.field i then behaviour_at robots i (replies_of state i) else Quiet

-- the last of some numbers, 0 if there is none
abbrev pub last_of : List ℤ → ℤ
last_of numbers = slice_index_or numbers (length numbers - 1) (pos 0)

-- the question of a cycle in which a robot wanted this and got a reply
abbrev pub asked_in : Want → ℕ → ℤ → Option Asked
asked_in (Ask intrinsic arguments) cycle reply = Some (record {
  cycle = cycle;
  question = record { intrinsic = intrinsic; arguments = arguments; reply = reply };
})
asked_in _ cycle reply = None

-- the question that a robot asks in the cycle after n: its reply is the last one that the robot has after it
unfoldable pub question_in : List Behaviour → ℕ → BattleState → ℕ → Option Asked
question_in robots i opening n =
    asked_in (wanted robots i (state_after robots opening n)) (n + 1)
    (last_of (replies_of (state_after robots opening (n + 1)) i))

-- the last question of the first n cycles
unfoldable pub last_question : List Behaviour → ℕ → BattleState → ℕ → Option Asked
last_question robots i opening zero = None
last_question robots i opening (suc n) =
    option_or (question_in robots i opening n) (last_question robots i opening n)

-- why a live robot wants a restart, if it wants one
abbrev pub cause_of : Bool → Pilot → Option Cause
cause_of alive seat = if alive then cause_next seat.code seat.state else None

-- A match was played on to the moment after a cycle, or to its end; this was the last question of a robot.
pub record HasPlayedTo (robots : List Behaviour) (opening : BattleState) (limit i cycle : ℕ) (codes : List Program)
    (seats : List Pilot) (game : Game) (last : Option Asked) : Type 0 where
  pub come : HasCome codes robots opening seats game
  pub limited : game.limit ≡ limit
  pub cycles : game.ending.cycles ≡ min cycle (last_cycle robots opening limit)
  pub asked : last ≡ last_question robots i opening game.ending.cycles

-- what is seen of a robot
pub record IsSeen (game : Game) (seat : Pilot) (i : ℕ) (last : Option Asked) (moment : Moment) : Type 0 where
  pub now : moment.game ≡ game
  pub alive : moment.is_alive ≡ is_live game.arena i
  pub next : (trace : List ℤ) → IsReached seat.state seat.code trace
      → moment.next ≡ (if is_live game.arena i then want_code seat.code trace else Quiet)
  pub cause : moment.cause ≡ cause_of (is_live game.arena i) seat
  pub asked : moment.last ≡ last

-- The moment of a robot after a cycle, or after the last one of the match. Each pilot's machine is where the replies of
-- its robot lead, the field is the battle's, and the robot wants what its source wants.
pub record IsMoment (robots : List Behaviour) (opening : BattleState) (limit i cycle : ℕ) (seats : List Pilot)
    (moment : Moment) : Type 0 where
  pub come : HasCome (codes_of seats) robots opening seats moment.game
  pub limited : moment.game.limit ≡ limit
  pub cycles : moment.game.ending.cycles ≡ min cycle (last_cycle robots opening limit)
  pub alive : moment.is_alive ≡ is_live_at (state_after robots opening moment.game.ending.cycles).field i
  pub next : moment.next ≡ wanted robots i (state_after robots opening moment.game.ending.cycles)
  pub cause : (seat : Pilot) → slice_get seats i ≡ Some seat → moment.cause ≡ cause_of moment.is_alive seat
  pub asked : moment.last ≡ last_question robots i opening moment.game.ending.cycles
