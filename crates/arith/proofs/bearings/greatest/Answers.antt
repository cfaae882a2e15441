-- The loop leaves the greatest.
use Rattle.std.proofs.Common.{arith}
use Rattle.arith.proofs.LaneLemmas.{greatest_of}
use Rattle.arith.proofs.bearings.greatest.Goals as goal

pub returns : goal.returns
returns c =
    greatest_of c.args.numbers c.loop-number.number-index _ (omega arith) (omega arith) c.loop-number.invariant
