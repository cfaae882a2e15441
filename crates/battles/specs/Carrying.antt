-- Which state of a battle the machines and the arena have reached.
use Rattle.std.specs.Prelude.{ℕ, ◌<◌, ℤ, pos, ◌≡◌, List, [], ◌∷◌, ◌++◌, replicate}
use Rattle.arena.specs.Arena.{Arena}
use Rattle.arena.specs.Representing.{RepresentsField}
use Rattle.grammar.specs.Profile.{Profile}
use Rattle.grammar.specs.Resolved.{IsResolved}
use Rattle.grammar.specs.Tree.{File}
use Rattle.code.specs.declared.want.Want.TheVariants.{Quiet}
use Rattle.code.specs.Codes.{IsProgramOf}
use Rattle.engine.specs.declared.engines.Engine.{Engine}
use Rattle.code.specs.Meaning.{want}
use Rattle.engine.specs.Executables.{Executable}
use Rattle.engine.specs.Engines.{EngineIsReached, EngineFits}
use Rattle.battles.specs.Battle.{Behaviour, BattleState}

-- the robot wants what the trees of the program's file want
pub record IsRobotOf (exe : Executable) (robot : Behaviour) : Type 0 where
  pub profile : Profile
  pub file : File
  pub resolved : IsResolved file
  pub program : IsProgramOf exe.program profile file
  pub wants : robot ≡ want profile file

abbrev pub AreRobotsOf : List Executable → List Behaviour → Type 0
AreRobotsOf [] [] = Unit {0}
AreRobotsOf (exe ∷ exes) (robot ∷ robots) = IsRobotOf exe robot × AreRobotsOf exes robots
AreRobotsOf _ _ = ⊥

-- A robot's machine, and how many cycles it is ahead of the robot.
pub record Runner : Type 0 where
  pub machine : Engine
  pub ahead : ℕ

-- the robot asks nothing in its next n cycles
abbrev pub IsQuiet : Behaviour → List ℤ → ℕ → Type 0
IsQuiet robot trace n = (k : ℕ) → k < n → robot (trace ++ replicate k (pos 0)) ≡ Quiet

-- the machine got the replies of the robot's trace, and is ahead by quiet cycles alone
pub record IsAheadOf (runner : Runner) (exe : Executable) (trace : List ℤ) : Type 0 where
  pub stands : EngineIsReached runner.machine exe (trace ++ replicate runner.ahead (pos 0))
  pub quiet : (robot : Behaviour) → IsRobotOf exe robot → IsQuiet robot trace runner.ahead

-- each machine can go on with its program
abbrev pub EachFits : List Runner → List Executable → Type 0
EachFits [] [] = Unit {0}
EachFits (runner ∷ runners) (exe ∷ exes) = EngineFits runner.machine exe × EachFits runners exes
EachFits _ _ = ⊥

-- each machine got the replies of its robot's trace, and may be ahead
abbrev pub EachIsAheadOf : List Runner → List Executable → List (List ℤ) → Type 0
EachIsAheadOf [] [] [] = Unit {0}
EachIsAheadOf (runner ∷ runners) (exe ∷ exes) (trace ∷ traces) =
    IsAheadOf runner exe trace × EachIsAheadOf runners exes traces
EachIsAheadOf _ _ _ = ⊥

pub record HasReached (runners : List Runner) (exes : List Executable) (arena : Arena) (state : BattleState) : Type 0
  where
    pub field : RepresentsField arena state.field
    pub traces : EachIsAheadOf runners exes state.traces
