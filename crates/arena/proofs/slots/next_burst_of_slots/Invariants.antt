use Rattle.std.proofs.Common.{take}
use Rattle.arena.specs.Still.{NoBurstBefore}
use Rattle.arena.proofs.slots.next_burst_of_slots.Given as goal

-- none so far bursts before
abbrev pub invariant-loop-own : goal.invariant-loop-own
invariant-loop-own l = NoBurstBefore l.next (take l.own-index l.slots)
