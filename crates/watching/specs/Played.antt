-- How far a match that is watched has come, by the definition of a battle.
use Rattle.std.specs.Prelude.{◌≡◌, ◌<◌, ℕ, Bool, true, false, List, [], None, map, nat_le}
use Rattle.arena.specs.Field.{Field, live_count}
use Rattle.arena.specs.Arena.{Arena}
use Rattle.arena.specs.Moved.{moved}
use Rattle.arena.specs.Representing.{RepresentsField}
use Rattle.battles.specs.Battle.{Behaviour, BattleState, battle, last_cycle}
use Rattle.battles.specs.Carrying.{Runner, HasReached}
use Rattle.code.specs.Generation.{Program}
use Rattle.code.specs.Machine.{Machine}
use Rattle.engine.specs.declared.engines.Engine.{Engine}
use Rattle.engine.specs.declared.phases.Phase.TheVariants.{Plain}
use Rattle.engine.specs.Executables.{Executable, executable_of}
use Rattle.engine.specs.CallStacks.{CallStack}
use Rattle.watching.specs.Pilot.{Pilot}
use Rattle.watching.specs.declared.games.PlayEnd.{PlayEnd}

-- the programs of the pilots
abbrev pub codes_of : List Pilot → List Program
codes_of seats = map (λ seat. seat.code) seats

-- what a plain machine runs, and is: an engine that has no operations
abbrev pub plainly : Program → Executable
plainly code = executable_of code None

abbrev pub exes_of : List Program → List Executable
exes_of codes = map plainly codes

abbrev pub no_words : CallStack
no_words = record { home = 0; below = []; cells = []; calls = [] }

abbrev pub engine_of : Machine → Engine
engine_of state = record { phase = Plain; pc = 0; early = 0; stack = no_words; plain = state }

-- their machines, none of which is ahead of its robot
abbrev pub runner_of : Pilot → Runner
runner_of seat = record { machine = engine_of seat.state; ahead = 0 }

abbrev pub runners_of : List Pilot → List Runner
runners_of seats = map runner_of seats

-- the pilots and the field have reached a state
abbrev pub HavePlayed : List Program → List Pilot → Arena → BattleState → Type 0
HavePlayed codes seats arena state = HasReached (runners_of seats) (exes_of codes) arena state

-- an update was done, which decides a match if it leaves at most one robot alive
pub record HaveUpdated (field : Field) (arena : Arena) (decides : Bool) : Type 0 where
  pub stands : RepresentsField arena (moved field)
  pub decided : decides ≡ nat_le (live_count (moved field)) 1

-- it is over exactly after this many cycles, and else it goes on after those that were played
abbrev pub EndsAt : ℕ → PlayEnd → Type 0
EndsAt last ending = (ending.is_over ≡ true → ending.cycles ≡ last) × (ending.is_over ≡ false → ending.cycles < last)

-- a match was played from an opening
abbrev pub IsEndOf : List Behaviour → BattleState → ℕ → PlayEnd → Type 0
IsEndOf robots opening limit ending = EndsAt (last_cycle robots opening limit) ending

-- the battle of these robots was played
abbrev pub IsPlayed : List Behaviour → (seed number limit : ℕ) → PlayEnd → Type 0
IsPlayed robots seed number limit ending = EndsAt (battle robots seed number limit).cycles ending
