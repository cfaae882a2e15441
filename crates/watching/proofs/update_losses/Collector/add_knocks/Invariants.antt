use Rattle.arena.specs.Field.{Field}
use Rattle.arena.specs.Representing.{RepresentsField}
use Rattle.watching.specs.Losses.{Collects}
use Rattle.watching.proofs.Losing.{knocks_to}
use Rattle.watching.proofs.update_losses.Collector.add_knocks.Given as goal

-- what the robots so far take is collected
abbrev pub invariant-loop-other : goal.invariant-loop-other
invariant-loop-other l = (f : Field) → RepresentsField l.arena f
    → Collects l.initial.self (knocks_to f l.robot l.other) l.self
