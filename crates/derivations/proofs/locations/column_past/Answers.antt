use Rattle.derivations.proofs.Placing.{reached_all, reached_more}
use Rattle.derivations.proofs.locations.column_past.Goals as goal

pub loop-byte-preserved : goal.loop-byte-preserved
loop-byte-preserved c =
    reached_more c.args.bytes.now c.loop-byte.byte-index c.args.column c.loop-byte.reached
    c.column_after-reached.result c.loop-byte-test.true c.loop-byte.invariant c.column_after-reached.ensures

pub returns : goal.returns
returns c =
    reached_all c.args.bytes.now c.loop-byte.byte-index c.args.column c.loop-byte.reached c.loop-byte-test.false
    c.loop-byte.invariant
