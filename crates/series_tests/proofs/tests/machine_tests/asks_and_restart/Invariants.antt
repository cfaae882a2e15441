use Rattle.code.specs.ReachedMachines.{IsReachable}
use Rattle.series_tests.proofs.tests.machine_tests.asks_and_restart.Given as goal

abbrev pub invariant-loop-cycle : goal.invariant-loop-cycle
invariant-loop-cycle l = IsReachable l.machine l.program
