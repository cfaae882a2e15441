-- Each turn adds a chunk, and the greatest lane is the greatest reach.
use Rattle.std.proofs.Common.{◌≡◌, ◌*◌, map, to_z, rules, arith}
use Rattle.std.specs.Int.{w32}
use Rattle.std.specs.List.{range_with_len}
use Rattle.std.proofs.lemmas.Int.{to_z-of_z}
use Rattle.arith.specs.Bearing.{projection_of}
use Rattle.arith.proofs.BearingLemmas.{most_at_first, most_of_more, most_of_all}
use Rattle.arith.proofs.LaneLemmas.{reaches_fit, lanes_and_back, max_lanes}
use Rattle.arith.proofs.bearings.greatest_projection.Goals as goal

pub loop-chunk-init : goal.loop-chunk-init
loop-chunk-init c =
    let near = c.requires in
    let xs = c.chunk_projections-most.result in
    let are : xs ≡ map (projection_of c.args.dx c.args.dy) (range_with_len (8 * 0) 8) =
    rw (to_z-of_z w32 c.args.dx c.ranges.dx, to_z-of_z w32 c.args.dy c.ranges.dy) at c.chunk_projections-most.ensures in
    let fit = reaches_fit c.args.dx c.args.dy near.dx_in_field near.dy_in_field (8 * 0) (omega arith) xs are in
    rw (to_z-of_z w32 c.args.dx c.ranges.dx, to_z-of_z w32 c.args.dy c.ranges.dy, lanes_and_back xs fit.0)
    (most_at_first c.args.dx c.args.dy xs are)

pub loop-chunk-preserved : goal.loop-chunk-preserved
loop-chunk-preserved c =
    let near = c.requires in
    let xs = c.chunk_projections.result in
    let chunk = c.loop-chunk.chunk in
    let are : xs ≡ map (projection_of c.args.dx c.args.dy) (range_with_len (8 * chunk) 8) =
    rw (to_z-of_z w32 c.args.dx c.ranges.dx, to_z-of_z w32 c.args.dy c.ranges.dy) at c.chunk_projections.ensures in
    let fit = reaches_fit c.args.dx c.args.dy near.dx_in_field near.dy_in_field (8 * chunk) (omega arith) xs are in
    let so_far =
    rw (to_z-of_z w32 c.args.dx c.ranges.dx, to_z-of_z w32 c.args.dy c.ranges.dy) at c.loop-chunk.invariant in
    rw (to_z-of_z w32 c.args.dx c.ranges.dx, to_z-of_z w32 c.args.dy c.ranges.dy, max_lanes c.loop-chunk.most xs fit.0)
    (most_of_more c.args.dx c.args.dy (map (to_z w32) c.loop-chunk.most) xs chunk so_far are)

pub returns : goal.returns
returns c =
    let so_far =
    rw (to_z-of_z w32 c.args.dx c.ranges.dx, to_z-of_z w32 c.args.dy c.ranges.dy) at c.loop-chunk.invariant in
    rw (to_z-of_z w32 c.greatest.result (search (rules, c.greatest.type_inv)))
    (most_of_all c.args.dx c.args.dy (map (to_z w32) c.loop-chunk.most) c.loop-chunk.chunk c.greatest.result
    (omega arith) so_far c.greatest.ensures)
