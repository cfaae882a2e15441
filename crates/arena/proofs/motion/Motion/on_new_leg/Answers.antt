use Rattle.std.proofs.Common.{arith}
use Rattle.std.proofs.lemmas.Int.{to_z-of_z}
use Rattle.arith.specs.Circle.{sine_at, cosine_at}
use Rattle.arena.proofs.Sums.{at_place}
use Rattle.arena.proofs.Products.{back}
use Rattle.arena.proofs.motion.Motion.on_new_leg.Goals as goal

pub sum_step-requires-clause-part : goal.sum_step-requires-clause-part
sum_step-requires-clause-part c =
    let small = c.cosine_at-cosine.ensures.within_scale in
    rw (back c.cosine_at-cosine.result (omega (arith, small))) small

pub sum_step-requires-2-clause-part : goal.sum_step-requires-2-clause-part
sum_step-requires-2-clause-part c =
    let small = c.sine_at-sine.ensures.within_scale in
    rw (back c.sine_at-sine.result (omega (arith, small))) small

pub returns : goal.returns
returns c =
    let x = at_place c.args.from.x (cosine_at c.args.self.heading) in
    let y = at_place c.args.from.y (sine_at c.args.self.heading) in
    grind (arith, to_z-of_z)
