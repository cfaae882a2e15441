-- A match that is played cycle by cycle, by the definition of a battle.
use Rattle.std.specs.Prelude.{◌≡◌, ◌⊎◌, ◌<◌, ◌≤◌, ◌+◌, ◌*◌, ◌/◌, ℕ, Bool, true, false, List, length}
use Rattle.arena.specs.Arena.{Arena}
use Rattle.battles.specs.Battle.{Behaviour, BattleState, is_over, state_after, turns, update_cycles}
use Rattle.battles.specs.Carrying.{AreRobotsOf}
use Rattle.code.specs.Generation.{Program}
use Rattle.watching.specs.Pilot.{Pilot}
use Rattle.watching.specs.Played.{HavePlayed, IsEndOf, codes_of, exes_of}
use Rattle.watching.specs.declared.games.PlayEnd.{PlayEnd}

-- its field, how far it has come, and its limit of cycles
pub record Game : Type 0 where
  pub arena : Arena
  pub ending : PlayEnd
  pub limit : ℕ

-- The pilots and the field are at the state after the cycles that were played since the opening. The match is over
-- exactly if its last cycle was played.
pub record HasCome (codes : List Program) (robots : List Behaviour) (opening : BattleState) (seats : List Pilot)
    (game : Game) : Type 0 where
  pub played : HavePlayed codes seats game.arena (state_after robots opening game.ending.cycles)
  pub ends : IsEndOf robots opening game.limit game.ending

-- The same, but the robots have taken their turns of the next cycle too. Its update, if it has one, is still to come.
pub record HaveTakenTurns (codes : List Program) (robots : List Behaviour) (opening : BattleState) (seats : List Pilot)
    (game : Game) : Type 0 where
  pub played : HavePlayed codes seats game.arena
      (turns robots (length robots) (state_after robots opening game.ending.cycles))
  pub ends : IsEndOf robots opening game.limit game.ending

-- The robots take their turns of the next cycle: each keeps its program, and the cycle hasn't ended.
pub record TakesTurns (old new : Game) (before after : List Pilot) : Type 0 where
  pub battle : (robots : List Behaviour) (s : BattleState) → AreRobotsOf (exes_of (codes_of before)) robots
      → HasCome (codes_of before) robots s before old → HaveTakenTurns (codes_of before) robots s after new
  pub codes : codes_of after ≡ codes_of before
  pub ending : new.ending ≡ old.ending
  pub limit : new.limit ≡ old.limit

-- one cycle more of the same match
pub record GoesOn (old new : Game) : Type 0 where
  pub cycles : new.ending.cycles ≡ old.ending.cycles + 1
  pub limit : new.limit ≡ old.limit

-- each update that was due was done, and a match that isn't over is below its limit
pub record IsCounted (game : Game) : Type 0 where
  pub updates : game.arena.updates ≡ game.ending.cycles / update_cycles
  pub most : game.ending.cycles ≤ game.limit
  pub goes_on : game.ending.is_over ≡ false → game.ending.cycles < game.limit

-- a match that is over ends at its limit or with an update
abbrev pub EndsWell : Game → Type 0
EndsWell game = game.ending.is_over ≡ true
    → (game.ending.cycles ≡ game.limit) ⊎ (game.ending.cycles ≡ game.ending.cycles / update_cycles * update_cycles)

-- The turns of a cycle after n were taken; then it ended, with an update or without one, which may decide the match.
abbrev pub HasEnded : List Program → List Behaviour → BattleState → (before : ℕ) → List Pilot → Arena → Arena → Bool →
    Type 0
HasEnded codes robots opening before seats arena arena' decides =
    HavePlayed codes seats arena (turns robots (length robots) (state_after robots opening before))
    → HavePlayed codes seats arena' (state_after robots opening (before + 1))
    × (is_over (before + 1) (state_after robots opening (before + 1)) ≡ decides)
