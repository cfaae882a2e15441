use Rattle.std.proofs.Common.{map, take}
use Rattle.arena.specs.Field.{Field}
use Rattle.arena.specs.Representing.{RepresentsField}
use Rattle.watching.specs.Losses.{Collects, hurt}
use Rattle.watching.proofs.update_losses.Collector.add_bursts.Given as goal

-- what the bursts so far take is collected
abbrev pub invariant-loop-burst : goal.invariant-loop-burst
invariant-loop-burst l = (f : Field) → RepresentsField l.arena f
    → Collects l.initial.self (map (hurt f l.robot) (take l.burst-index l.bursts)) l.self
