use Rattle.std.proofs.Common.{◌≡◌, [], take}
use Rattle.std.specs.List.{All}
use Rattle.arena.proofs.slots.no_slot_flies.Given as goal

-- none so far has a missile in the air
abbrev pub invariant-loop-own : goal.invariant-loop-own
invariant-loop-own l = All (λ s. s ≡ []) (take l.own-index l.slots)
