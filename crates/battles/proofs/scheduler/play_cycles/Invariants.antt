use Rattle.std.proofs.Common.{◌≡◌, ◌≤◌, ◌-◌, ◌*◌, List}
use Rattle.battles.specs.Battle.{Behaviour, BattleState, state_after, is_over, first_passing, last_cycle}
use Rattle.battles.specs.Carrying.{AreRobotsOf, HasReached}
use Rattle.battles.specs.IntervalKeeping.{HaveMachines}
use Rattle.battles.proofs.scheduler.play_cycles.Given as goal

abbrev pub invariant-loop-number : goal.invariant-loop-number
invariant-loop-number l = record {
  within : l.number ≤ l.intervals;
  manned : HaveMachines l.executables l.runners l.arena;
  updates : l.arena.updates ≡ l.number;
  state : (robots : List Behaviour) (s : BattleState) → AreRobotsOf l.executables robots
      → HasReached l.initial.runners l.executables l.initial.arena s
      → HasReached l.runners l.executables l.arena (state_after robots s (15 * l.number));
  cycles : (robots : List Behaviour) (s : BattleState) → AreRobotsOf l.executables robots
      → HasReached l.initial.runners l.executables l.initial.arena s
      →
      first_passing (λ n. is_over n (state_after robots s n)) (15 * l.number) (l.limit - 15 * l.number) ≡
      last_cycle robots s l.limit;
}

abbrev pub decreases-loop-number : goal.decreases-loop-number
decreases-loop-number l = l.intervals - l.number
