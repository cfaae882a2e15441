use Rattle.code.specs.ReachedMachines.{IsReachable}
use Rattle.series_tests.proofs.tests.machine_tests.pass.Given as goal

abbrev pub invariant-loop : goal.invariant-loop
invariant-loop g l = IsReachable l.machine l.program
