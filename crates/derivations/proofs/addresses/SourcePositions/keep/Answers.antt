use Rattle.derivations.proofs.Keeping.{kept_more}
use Rattle.derivations.proofs.addresses.SourcePositions.keep.Goals as goal

pub loop-made-preserved : goal.loop-made-preserved
loop-made-preserved c =
    kept_more c.loop-made.self c.push.new.self c.args.self.now c.origin-place.result c.loop-made._made
    (c.push.ensures.pushed c.if-not-push.false) c.loop-made.invariant
