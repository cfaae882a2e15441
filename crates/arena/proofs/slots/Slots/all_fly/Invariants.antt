use Rattle.std.proofs.Common.{◌≡◌, filter, take, nat_lt}
use Rattle.arena.proofs.slots.Slots.all_fly.Given as goal

-- all so far fly
abbrev pub invariant-loop-missile : goal.invariant-loop-missile
invariant-loop-missile l =
    filter (λ m. nat_lt l.update m.burst) (take l.missile-index l.missile-items) ≡ take l.missile-index l.missile-items
