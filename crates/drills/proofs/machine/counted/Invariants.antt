use Rattle.std.proofs.Common.{◌+◌, ◌≤◌}
use Rattle.code.specs.ReachedMachines.{IsReachable}
use Rattle.drills.proofs.machine.counted.Given as goal

-- the machine fits its program, and each cycle counts once at most
abbrev pub invariant-loop-left : goal.invariant-loop-left
invariant-loop-left l = IsReachable l.machine l.program × (l.counts.asks + l.counts.restarts + l.left ≤ l.cycles)

abbrev pub decreases-loop-left : goal.decreases-loop-left
decreases-loop-left l = l.left
