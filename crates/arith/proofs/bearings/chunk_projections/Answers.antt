-- Lane by lane the sum of the two parts is the reach, and nothing is lost on the way.
use Rattle.std.proofs.Common.{◌*◌, arith}
use Rattle.arith.proofs.LaneLemmas.{chunk_reaches_are}
use Rattle.arith.proofs.bearings.chunk_projections.Goals as goal

pub returns : goal.returns
returns c =
    let near = c.requires in
    chunk_reaches_are c.args.dx c.args.dy near.dx_in_field near.dy_in_field c.ranges.dx c.ranges.dy (8 * c.args.chunk)
    (omega arith) c.round_entries-cosines.result c.round_entries-sines.result c.round_entries-cosines.ensures
    c.round_entries-sines.ensures
