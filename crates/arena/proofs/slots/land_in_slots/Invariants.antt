use Rattle.std.proofs.Common.{◌≡◌, ◌<◌, ◌≤◌, ℕ, [], filter, nat_lt, length, get_or}
use Rattle.arena.proofs.slots.land_in_slots.Given as goal

-- the robots so far keep what still flies, and the others all that they had
abbrev pub invariant-loop-own : goal.invariant-loop-own
invariant-loop-own l = record {
  size : length l.own-items ≡ length l.initial.own-items;
  landed : (i : ℕ) → i < l.own-index →
      get_or l.own-items i [] ≡ filter (λ m. nat_lt l.update m.burst) (get_or l.initial.own-items i []);
  rest : (i : ℕ) → l.own-index ≤ i → get_or l.own-items i [] ≡ get_or l.initial.own-items i [];
}
