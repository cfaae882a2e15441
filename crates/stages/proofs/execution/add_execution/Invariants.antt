use Rattle.code.specs.ReachedMachines.{IsReachable}
use Rattle.stages.proofs.execution.add_execution.Given as goal

-- the machine fits its program
abbrev pub invariant-loop-cycle : goal.invariant-loop-cycle
invariant-loop-cycle l = IsReachable l.machine l.robot.program
