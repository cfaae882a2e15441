-- The lowest bit that is set is the first lane that is equal.
use Rattle.std.proofs.Common.{◌≡◌, ◌*◌, ◌<◌, FitsSigned, Some, length, map, ap, ◌∙◌, sym, arith}
use Rattle.std.specs.Int.Count.{count_trailing_zeros}
use Rattle.std.specs.Ordering.{int_eq}
use Rattle.std.specs.List.{All, position, range_with_len}
use Rattle.std.specs.Int.{w32}
use Rattle.std.proofs.lemmas.Int.{to_z-of_z}
use Rattle.arith.specs.Bearing.{projection_of}
use Rattle.arith.proofs.LaneLemmas.{bitmask_is, no_lane, first_lane, reaches_fit, equal_mask}
use Rattle.arith.proofs.bearings.lane_of_projection.Goals.{After-chunk_projections}
use Rattle.arith.proofs.bearings.lane_of_projection.Goals as goal

-- the lanes as the caller's numbers have them: each fits
lanes_are : (c : After-chunk_projections) → let lanes = c.chunk_projections.result in
    (lanes ≡ map (projection_of c.args.dx c.args.dy) (range_with_len (8 * c.args.chunk) 8))
    × All (FitsSigned w32) lanes × (length lanes ≡ 8)
lanes_are c =
    let are = rw (to_z-of_z w32 c.args.dx c.ranges.dx, to_z-of_z w32 c.args.dy c.ranges.dy) at
    c.chunk_projections.ensures in
    let fit =
    reaches_fit c.args.dx c.args.dy c.requires.dx_in_field c.requires.dy_in_field (8 * c.args.chunk) (omega arith)
    c.chunk_projections.result are in
    (are, fit.0, fit.1)

pub returns-then-equal-eq0 : goal.returns-then-equal-eq0
returns-then-equal-eq0 c =
    let lanes = lanes_are (goal.at.returns-then-equal-eq0 c).After-chunk_projections in
    let mask = bitmask_is c.args.reach c.ranges.reach c.chunk_projections.result lanes.1 lanes.2 in
    no_lane (int_eq c.args.reach) c.chunk_projections.result (sym mask ∙ c.if-equal-eq0.true) ∙
    ap (position (int_eq c.args.reach)) lanes.0

pub returns : goal.returns
returns c =
    let lanes = lanes_are (goal.at.returns c).After-chunk_projections in
    let mask = bitmask_is c.args.reach c.ranges.reach c.chunk_projections.result lanes.1 lanes.2 in
    let some : 0 < equal_mask c.args.reach c.chunk_projections.result = omega (arith, mask) in
    ap (λ m. Some (count_trailing_zeros 64 m)) mask ∙
    first_lane (int_eq c.args.reach) c.chunk_projections.result lanes.2 some ∙
    ap (position (int_eq c.args.reach)) lanes.0
