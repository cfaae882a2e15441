use Rattle.std.proofs.Common.{◌≤◌}
use Rattle.code.specs.ReachedMachines.{IsReachable as MachineFits}
use Rattle.engine.specs.Engines.{EngineFits}
use Rattle.engine_tests.proofs.tests.sides.both_run.Given as goal

-- both fit what they run
abbrev pub invariant-loop-left : goal.invariant-loop-left
invariant-loop-left g l = EngineFits l.engine l.exe × MachineFits l.machine l.program × (l.left ≤ 65535)

abbrev pub decreases-loop-left : goal.decreases-loop-left
decreases-loop-left g l = l.left
