use Rattle.std.proofs.Common.{◌≤◌, take}
use Rattle.std.specs.List.{All}
use Rattle.arena.proofs.slots.Slots.next_burst.Given as goal

-- none so far bursts before
abbrev pub invariant-loop-missile : goal.invariant-loop-missile
invariant-loop-missile l = All (λ m. l.next ≤ m.burst) (take l.missile-index l.missile-items)
