-- At the end each robot keeps what still flies.
use Rattle.std.proofs.Common.{arith}
use Rattle.arena.proofs.SlotLaws.{holds_landed, two_landed}
use Rattle.arena.proofs.slots.land_in_slots.Goals as goal

pub returns-clause-shots : goal.returns-clause-shots
returns-clause-shots c = λ updates shots e holds.
    let kept = c.loop-own.invariant in
    holds_landed updates c.args.update c.args.slots.now c.loop-own.own-items shots e kept.size
    (λ i l. kept.landed i (omega (arith, l))) holds

pub returns-clause-two : goal.returns-clause-two
returns-clause-two c = λ two k d l.
    let kept = c.loop-own.invariant in
    two_landed c.args.update c.args.slots.now c.loop-own.own-items kept.size (λ i l. kept.landed i (omega (arith, l)))
    two k d l
