use Rattle.std.proofs.Common.{pos, ◌≤ℤ◌, FitsSigned, w32, rules, arith}
use Rattle.std.proofs.lemmas.Int.{ints}
use Rattle.arith.specs.Bearing.{projection_of}
use Rattle.arena.proofs.Beside.{deep}
use Rattle.arena.proofs.Sight.{leads_deep}
use Rattle.arena.proofs.arcs.Arc.is_deep.Goals as goal

pub returns-then-projection-ge-DEEP : goal.returns-then-projection-ge-DEEP
returns-then-projection-ge-DEEP c = λ h.
    let arc = c.args.self.now in
    let way = c.args.way.now in
    let left_fits : FitsSigned w32 c.projection.result = search rules in
    let right_fits : FitsSigned w32 c.projection-then-projection-ge-DEEP.result = search rules in
    let left = c.projection.ensures in
    let right = c.projection-then-projection-ge-DEEP.ensures in
    let deep_left : pos 3500000 ≤ℤ projection_of way.east way.north arc.left.degree =
    omega (arith, ints, left, c.if-projection-ge-DEEP.true) in
    let deep_right : pos 3500000 ≤ℤ projection_of way.east way.north arc.right.degree = omega (arith, ints, right, h) in
    leads_deep way.east way.north arc.degree arc.resolution
    (deep way.east way.north arc.degree arc.resolution _ _ way.east_in_field way.north_in_field arc.round arc.narrow
    arc.to_left arc.to_right deep_left deep_right)
