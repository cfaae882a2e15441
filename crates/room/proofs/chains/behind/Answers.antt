use Rattle.room.proofs.ChainLaws.{is_last, links}
use Rattle.room.proofs.chains.behind.Goals as goal

pub returns-then-caller-number-clause-next : goal.returns-then-caller-number-clause-next
returns-then-caller-number-clause-next c =
    links c.args.measure c.args.calls.now c.args.functions.now c.loop-caller.caller-index c.caller-item.result
    c.args.number c.needed_by.result c.loop-caller-test.true c.caller-item.is c.if-caller-number.true
    c.needed_by.ensures.some c.needed_by.ensures.less

pub returns-then-caller-number-clause-last : goal.returns-then-caller-number-clause-last
returns-then-caller-number-clause-last c = λ none closed among.
    is_last c.args.measure c.args.calls.now c.args.functions.now c.loop-caller.caller-index c.caller-item.result
    c.args.number c.loop-caller-test.true c.caller-item.is c.if-caller-number.true closed
    (c.needed_by.ensures.none none)
