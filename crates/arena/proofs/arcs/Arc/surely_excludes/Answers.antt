use Rattle.std.proofs.Common.{pos, ◌<ℤ◌, FitsSigned, w32, rules, ◌∙◌, arith}
use Rattle.std.proofs.lemmas.Int.{ints}
use Rattle.arith.specs.Bearing.{projection_of}
use Rattle.arena.proofs.Sight.{leads_somewhere}
use Rattle.arena.proofs.Beside.{beside_left, beside_right, elsewhere}
use Rattle.arena.proofs.arcs.Arc.surely_excludes.Goals as goal

pub returns-then-projection-lt0 : goal.returns-then-projection-lt0
returns-then-projection-lt0 c = λ _.
    let arc = c.args.self.now in
    let way = c.args.way.now in
    let fits : FitsSigned w32 c.projection.result = search rules in
    let reach = c.projection.ensures in
    let backwards : projection_of way.east way.north arc.left.degree <ℤ pos 0 =
    omega (arith, ints, reach, c.if-projection-lt0.true) in
    leads_somewhere way.east way.north arc.degree arc.resolution (elsewhere way.east way.north _ backwards) ∙
    beside_left way.east way.north arc.degree arc.resolution _ arc.round arc.narrow arc.to_left backwards

pub returns-else-projection-lt0 : goal.returns-else-projection-lt0
returns-else-projection-lt0 c = λ h.
    let arc = c.args.self.now in
    let way = c.args.way.now in
    let fits : FitsSigned w32 c.projection-else-projection-lt0.result = search rules in
    let reach = c.projection-else-projection-lt0.ensures in
    let backwards : projection_of way.east way.north arc.right.degree <ℤ pos 0 = omega (arith, ints, reach, h) in
    leads_somewhere way.east way.north arc.degree arc.resolution (elsewhere way.east way.north _ backwards) ∙
    beside_right way.east way.north arc.degree arc.resolution _ arc.round arc.narrow arc.to_right backwards
