use Rattle.std.proofs.Common.{◌≡◌, ◌≤◌, filter, take, length, nat_lt}
use Rattle.arena.proofs.slots.Slots.keep_flying.Given as goal

-- those so far that still fly
abbrev pub invariant-loop-missile : goal.invariant-loop-missile
invariant-loop-missile l = record {
  flying : l.flying.items ≡ filter (λ m. nat_lt l.update m.burst) (take l.missile-index l.missile-items);
  room : length l.flying.items ≤ l.missile-index;
}
