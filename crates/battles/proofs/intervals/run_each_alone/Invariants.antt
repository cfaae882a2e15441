use Rattle.std.proofs.Common.{◌≡◌, ◌≤◌, ◌<◌, ◌*◌, ℕ, List, Some, length}
use Rattle.std.specs.Prelude.{slice_get, slice_index_or}
use Rattle.engine.specs.Executables.{Executable}
use Rattle.battles.specs.Battle.{Behaviour, BattleState}
use Rattle.battles.specs.Carrying.{Runner, AreRobotsOf}
use Rattle.battles.specs.IntervalKeeping.{HaveMachines}
use Rattle.battles.specs.Intervals.{AreTurnNumbers, HasCome, WaitsToDraw}
use Rattle.battles.proofs.intervals.run_each_alone.Given as goal

abbrev pub invariant-loop-robot : goal.invariant-loop-robot
invariant-loop-robot l = record {
  turn_numbers : AreTurnNumbers l.turn_numbers;
  first : (i : ℕ) → l.robot ≤ i → i < length l.executables → slice_index_or l.turn_numbers i 0 ≡ i;
  past : (i : ℕ) → length l.executables ≤ i → i < 4 → 4 * l.cycles ≤ slice_index_or l.turn_numbers i 0;
  waiting : (i : ℕ) (exe : Executable) (none : Runner) → i < l.robot → slice_get l.executables i ≡ Some exe
      → slice_index_or l.turn_numbers i 0 < 4 * l.cycles → WaitsToDraw exe (slice_index_or l.runners i none);
  come : (robots : List Behaviour) (s : BattleState) → AreRobotsOf l.executables robots
      → HasCome robots l.executables l.initial.turn_numbers l.cycles l.initial.runners l.initial.arena s
      → HasCome robots l.executables l.turn_numbers l.cycles l.runners l.arena s;
  manned : HaveMachines l.executables l.runners l.arena;
  updates : l.arena.updates ≡ l.initial.arena.updates;
}
