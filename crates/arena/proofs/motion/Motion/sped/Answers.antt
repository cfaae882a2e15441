use Rattle.std.proofs.Common.{ap, ◌∙◌, arith}
use Rattle.std.proofs.lemmas.Int.{to_z-of_z}
use Rattle.arena.specs.Arena.{Motion}
use Rattle.arena.proofs.Sums.{field_back}
use Rattle.arena.proofs.Products.{back}
use Rattle.arena.proofs.MotionLaws.{sped_is}
use Rattle.arena.proofs.motion.Motion.sped.Goals as goal

pub sum_step-requires-clause-part : goal.sum_step-requires-clause-part
sum_step-requires-clause-part c = grind (arith, back)

pub sum_step-requires-2-clause-part : goal.sum_step-requires-2-clause-part
sum_step-requires-2-clause-part c = grind (arith, back)

pub invariant_of-sped : goal.invariant_of-sped
invariant_of-sped c =
    let i = c.self.invariant in
    let east = c.sum_step.ensures.most in
    let north = c.sum_step-2.ensures.most in
    record {
      east = rw (field_back c.self.inside.east i.east) i.east;
      north = rw (field_back c.self.inside.north i.north) i.north;
      step_east = rw (back c.sum_step.result (omega (arith, east))) east;
      step_north = rw (back c.sum_step-2.result (omega (arith, north))) north;
      heading = i.heading;
      wanted_heading = i.wanted_heading;
      speed = c.approached-speed.ensures.most;
      wanted_speed = i.wanted_speed;
    }

pub returns-clause-leg : goal.returns-clause-leg
returns-clause-leg c = λ leg e. let h = sped_is c.args.self leg e in grind (arith, to_z-of_z)

pub returns-clause-place : goal.returns-clause-place
returns-clause-place c =
    let i = c.self.invariant in
    let settled =
    rw (field_back c.self.inside.east i.east, field_back c.self.inside.north i.north) at c.with_steadiness.ensures in
    record {
      on_x = ap (λ (t : Motion). t.x) settled ∙ ap (λ (t : Motion). t.x) c.self.view_is;
      on_y = ap (λ (t : Motion). t.y) settled ∙ ap (λ (t : Motion). t.y) c.self.view_is;
    }
