-- Nothing is in the air of any robot.
use Rattle.arena.proofs.SlotLaws.{holds_none, before_none}
use Rattle.arena.proofs.slots.empty_slots.Goals as goal

pub returns-clause-none : goal.returns-clause-none
returns-clause-none c = holds_none c.loop-robot._robot c.loop-robot.slots.items c.loop-robot.invariant

pub returns-clause-next : goal.returns-clause-next
returns-clause-next c = λ update. before_none c.loop-robot._robot update c.loop-robot.slots.items c.loop-robot.invariant
