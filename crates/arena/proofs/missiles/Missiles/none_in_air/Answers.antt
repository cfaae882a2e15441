use Rattle.std.proofs.Common.{arith}
use Rattle.arena.proofs.missiles.Missiles.none_in_air.Goals as goal

pub invariant_of-result : goal.invariant_of-result
invariant_of-result c = (omega arith, c.empty_slots.ensures.next 4294967295)
