-- What a turn of one robot makes of all runners and traces.
use Rattle.std.proofs.Common.{◌≡◌, ℕ, ℤ, ◌+◌, zero, suc, List, [], ◌∷◌, length, Some, get_or, refl, ap, set, add-one}
use Rattle.std.specs.Prelude.{slice_get}
use Rattle.arena.specs.Field.{Field}
use Rattle.arena.specs.Arena.{Arena}
use Rattle.arena.specs.Representing.{RepresentsField}
use Rattle.code.specs.declared.want.Want.TheVariants.{Quiet}
use Rattle.engine.specs.Executables.{Executable}
use Rattle.engine.specs.Engines.{EngineFits}
use Rattle.battles.specs.Battle.{Behaviour, BattleState, robot_turn, behaviour_at, turn, turns}
use Rattle.battles.specs.Carrying.{Runner, IsRobotOf, AreRobotsOf, IsAheadOf, EachFits, EachIsAheadOf, HasReached}

-- the robot with an index is that of the program there
pub robot_at : (exes : List Executable) (robots : List Behaviour) (i : ℕ) (exe : Executable) (none : Behaviour)
    → AreRobotsOf exes robots → slice_get exes i ≡ Some exe → IsRobotOf exe (get_or robots i none)
robot_at [] [] i exe none are here = cc
robot_at [] (robot ∷ robots) i exe none are here = absurd are
robot_at (exe' ∷ exes) [] i exe none are here = absurd are
robot_at (exe' ∷ exes) (robot ∷ robots) zero exe none are here =
    let same : exe' ≡ exe = cc in rw same at are.0
robot_at (exe' ∷ exes) (robot ∷ robots) (suc i) exe none are here = robot_at exes robots i exe none are.1 here

-- so does the machine with an index fit
pub fits_at : (runners : List Runner) (exes : List Executable) (i : ℕ) (exe : Executable) (none : Runner)
    → EachFits runners exes → slice_get exes i ≡ Some exe → EngineFits (get_or runners i none).machine exe
fits_at [] [] i exe none fits here = cc
fits_at [] (exe' ∷ exes) i exe none fits here = absurd fits
fits_at (runner ∷ runners) [] i exe none fits here = absurd fits
fits_at (runner ∷ runners) (exe' ∷ exes) zero exe none fits here =
    let same : exe' ≡ exe = cc in rw same at fits.0
fits_at (runner ∷ runners) (exe' ∷ exes) (suc i) exe none fits here =
    fits_at runners exes i exe none fits.1 here

-- and is at the end of the trace with that index
pub stands_at : (runners : List Runner) (exes : List Executable) (traces : List (List ℤ)) (i : ℕ) (exe : Executable)
    (none : Runner)
    → EachIsAheadOf runners exes traces → slice_get exes i ≡ Some exe →
    IsAheadOf (get_or runners i none) exe (get_or traces i [])
stands_at [] [] [] i exe none stands here = cc
stands_at (runner ∷ runners) (exe' ∷ exes) (trace ∷ traces) zero exe none stands here =
    let same : exe' ≡ exe = cc in rw same at stands.0
stands_at (runner ∷ runners) (exe' ∷ exes) (trace ∷ traces) (suc i) exe none stands here =
    stands_at runners exes traces i exe none stands.1 here
stands_at _ _ _ i exe none stands here = absurd stands

-- there are as many of each
pub fits_length : (runners : List Runner) (exes : List Executable) → EachFits runners exes →
    length runners ≡ length exes
fits_length [] [] fits = refl
fits_length (runner ∷ runners) (exe ∷ exes) fits = ap suc (fits_length runners exes fits.1)
fits_length [] (exe ∷ exes) fits = absurd fits
fits_length (runner ∷ runners) [] fits = absurd fits

pub robots_length : (exes : List Executable) (robots : List Behaviour) → AreRobotsOf exes robots →
    length robots ≡ length exes
robots_length [] [] are = refl
robots_length (exe ∷ exes) (robot ∷ robots) are = ap suc (robots_length exes robots are.1)
robots_length [] (robot ∷ robots) are = absurd are
robots_length (exe ∷ exes) [] are = absurd are

-- one runner is changed
pub fits_set : (runners : List Runner) (exes : List Executable) (i : ℕ) (runner : Runner) (exe : Executable)
    → EachFits runners exes → slice_get exes i ≡ Some exe → EngineFits runner.machine exe →
    EachFits (set runners i runner) exes
fits_set [] [] i runner exe fits here new = cc
fits_set (runner' ∷ runners) (exe' ∷ exes) zero runner exe fits here new =
    let same : exe ≡ exe' = cc in (rw same at new, fits.1)
fits_set (runner' ∷ runners) (exe' ∷ exes) (suc i) runner exe fits here new =
    (fits.0, fits_set runners exes i runner exe fits.1 here new)
fits_set [] (exe' ∷ exes) i runner exe fits here new = absurd fits
fits_set (runner' ∷ runners) [] i runner exe fits here new = absurd fits

pub stands_set : (runners : List Runner) (exes : List Executable) (traces : List (List ℤ)) (i : ℕ) (runner : Runner)
    (exe : Executable) (trace : List ℤ)
    → EachIsAheadOf runners exes traces → slice_get exes i ≡ Some exe → IsAheadOf runner exe trace
    → EachIsAheadOf (set runners i runner) exes (set traces i trace)
stands_set [] [] [] i runner exe trace stands here new = cc
stands_set (runner' ∷ runners) (exe' ∷ exes) (trace' ∷ traces) zero runner exe trace stands here new =
    let same : exe ≡ exe' = cc in (rw same at new, stands.1)
stands_set (runner' ∷ runners) (exe' ∷ exes) (trace' ∷ traces) (suc i) runner exe trace stands here new =
    (stands.0, stands_set runners exes traces i runner exe trace stands.1 here new)
stands_set _ _ _ i runner exe trace stands here new = absurd stands

-- none has had its turn yet
pub turns_none : (robots : List Behaviour) (s : BattleState) → turns robots 0 s ≡ s
unfolding turns
turns_none robots s = refl

pub turns_more : (robots : List Behaviour) (i : ℕ) (s : BattleState) →
    turns robots (i + 1) s ≡ turn robots i (turns robots i s)
unfolding turns
turns_more robots i s = rw add-one refl

-- What one robot's cycle makes of its runner and of the arena, whatever its trace and the field are.
pub record HasStepped (i : ℕ) (exe : Executable) (runner after : Runner) (arena grown : Arena) : Type 0 where
  pub field : (r : Behaviour) (f : Field) (trace : List ℤ) → IsRobotOf exe r → RepresentsField arena f →
      IsAheadOf runner exe trace
      → RepresentsField grown (robot_turn r i f trace).0
  pub trace : (r : Behaviour) (f : Field) (trace : List ℤ) → IsRobotOf exe r → RepresentsField arena f →
      IsAheadOf runner exe trace
      → IsAheadOf after exe (robot_turn r i f trace).1

-- So the state is that after the robot's turn.
pub turn_reached : (exes : List Executable) (robots : List Behaviour) (runners : List Runner) (arena grown : Arena)
    (s : BattleState) (i : ℕ)
    (exe : Executable) (none after : Runner)
    → AreRobotsOf exes robots → HasReached runners exes arena s → slice_get exes i ≡ Some exe
    → HasStepped i exe (get_or runners i none) after arena grown
    → HasReached (set runners i after) exes grown (turn robots i s)
unfolding turn behaviour_at
turn_reached exes robots runners arena grown s i exe none after are reached here stepped =
    let robot = robot_at exes robots i exe (λ trace. Quiet) are here in
    let stands = stands_at runners exes s.traces i exe none reached.traces here in
    record {
      field = stepped.field _ _ _ robot reached.field stands;
      traces = stands_set runners exes s.traces i after exe _ reached.traces here
          (stepped.trace _ _ _ robot reached.field stands);
    }
