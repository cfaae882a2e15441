use Rattle.std.proofs.Common.{◌-◌, ◌≤◌}
use Rattle.code.specs.Registers.{machine_of}
use Rattle.code.specs.ReachedMachines.{HasRunQuiet}
use Rattle.code.proofs.storage.Storage.run_quiet.Given as goal

abbrev pub invariant-loop-left : goal.invariant-loop-left
invariant-loop-left l =
    record {
      coasted : HasRunQuiet l.program (machine_of l.initial.registers l.initial.self) (l.most - l.left)
          (machine_of l.registers l.self);
      within : l.left ≤ l.most;
    }

abbrev pub decreases-loop-left : goal.decreases-loop-left
decreases-loop-left l = l.left
