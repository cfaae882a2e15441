-- What playing an interval needs of the machines and the arena, and what it keeps.
use Rattle.std.specs.Prelude.{◌≡◌, ◌≢◌, ℕ, ◌<◌, ◌≤◌, ◌*◌, List, Bool, true, length, slice_index_or, nat_le}
use Rattle.arena.specs.Field.{live_count}
use Rattle.arena.specs.Arena.{Arena, is_live}
use Rattle.arena.specs.declared.rules.TheConstants.{MOST_ROBOTS}
use Rattle.engine.specs.Executables.{Executable}
use Rattle.engine.specs.declared.engines.Engine.{Engine}
use Rattle.engine.specs.Engines.{EngineFits}
use Rattle.engine.specs.declared.questions.Question.{Question}
use Rattle.engine.specs.Questions.{IsAsked, want_of}
use Rattle.code.specs.declared.want.Want.TheVariants.{Quiet}
use Rattle.battles.specs.declared.intervals.TheConstants.{MOST_AHEAD}
use Rattle.battles.specs.Battle.{Behaviour, BattleState, update_cycles}
use Rattle.battles.specs.Carrying.{Runner, EachFits, HasReached}
use Rattle.battles.specs.Intervals.{AreTurnNumbers, AreWaiting, WaitsToDraw, periods}

-- a robot of the field for each machine
pub record HaveFieldRobots (runners : List Runner) (arena : Arena) : Type 0 where
  pub few : length runners ≤ MOST_ROBOTS
  pub robots : length arena.robots ≡ length runners

-- each program has a machine that can go on with it, and a robot of the field
pub record HaveMachines (exes : List Executable) (runners : List Runner) (arena : Arena) : Type 0 where
  pub few : length exes ≤ MOST_ROBOTS
  pub fits : EachFits runners exes
  pub robots : length arena.robots ≡ length exes

-- a robot of the field, whose machine can go on with its program
pub record CanPlay (i : ℕ) (exe : Executable) (machine : Engine) (arena : Arena) : Type 0 where
  pub turn_number : i < MOST_ROBOTS
  pub inside : i < length arena.robots
  pub fits : EngineFits machine exe

-- a live one, whose machine asks this: a reply or a restart
pub record MayTakeTurn (i : ℕ) (exe : Executable) (machine : Engine) (arena : Arena)
    (question : Question) : Type 0 where
  pub plays : CanPlay i exe machine arena
  pub alive : is_live arena i ≡ true
  pub asked : IsAsked exe machine question
  pub some : want_of question ≢ Quiet

-- a robot's turns keep that it can play, the number of robots, and the number of updates
pub record KeepsPlayable (exe : Executable) (machine : Engine) (before after : Arena) : Type 0 where
  pub fits : EngineFits machine exe
  pub robots : length after.robots ≡ length before.robots
  pub updates : after.updates ≡ before.updates

-- How far from the start of an interval of n cycles a machine may run: to its end at least, and no further than
-- any machine runs that asks nothing. An interval is at most the cycles between two updates.
pub record MayRunAhead (cycles farthest : ℕ) : Type 0 where
  pub within : cycles ≤ update_cycles
  pub far : cycles ≤ farthest
  pub near : farthest ≤ MOST_AHEAD

-- A robot ran for n cycles of at most a number. If it stopped before these were over, its machine waits.
pub record RanWithin (limit n : ℕ) (exe : Executable) (runner : Runner) : Type 0 where
  pub most : n ≤ limit
  pub waits : n < limit → WaitsToDraw exe runner

-- An interval of w cycles: each robot has the number of its next turn. Those that aren't there have no turn in it.
pub record IsInterval (exes : List Executable) (next : List ℕ) (w : ℕ) (runners : List Runner)
    (arena : Arena) : Type 0 where
  pub manned : HaveMachines exes runners arena
  pub turn_numbers : AreTurnNumbers next
  pub past : (i : ℕ) → length exes ≤ i → i < MOST_ROBOTS → MOST_ROBOTS * w ≤ slice_index_or next i 0

-- at its start each robot has all its turns before it
pub record BeginsInterval (exes : List Executable) (next : List ℕ) (w : ℕ) (runners : List Runner)
    (arena : Arena) : Type 0 where
  pub interval : IsInterval exes next w runners arena
  pub first : (i : ℕ) → i < length exes → slice_index_or next i 0 ≡ i

-- after that each robot that has turns left in it waits
pub record IsWaitingInterval (exes : List Executable) (next : List ℕ) (w : ℕ) (runners : List Runner)
    (arena : Arena) : Type 0 where
  pub interval : IsInterval exes next w runners arena
  pub waiting : AreWaiting w next exes runners

-- the state after an update, and whether that decides the battle: at most one robot is alive
pub record HasUpdated (exes : List Executable) (runners : List Runner) (arena : Arena) (state : BattleState)
    (decides : Bool) : Type 0 where
  pub reached : HasReached runners exes arena state
  pub decided : decides ≡ nat_le (live_count state.field) 1

-- the state after n periods, in none of which a robot died
pub record HasPassedPeriods (robots : List Behaviour) (exes : List Executable) (n : ℕ)
    (runners : List Runner) (arena : Arena) (state : BattleState) : Type 0 where
  pub reached : HasReached runners exes arena (periods robots n state)
  pub alive : (k : ℕ) → k ≤ n → live_count (periods robots k state).field ≡ live_count state.field
