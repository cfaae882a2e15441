use Rattle.std.proofs.Common.{refl, ap, ◌∙◌}
use Rattle.arena.specs.Field.{damage_of}
use Rattle.arena.specs.Arena.{Robot, robot_of}
use Rattle.arena.proofs.robots.Robot.want.Goals as goal

pub returns-clause-robot : goal.returns-clause-robot
unfolding robot_of damage_of
returns-clause-robot c = λ robot e.
    let whole = c.self.view_is ∙ e in
    let t = c.want.ensures.leg robot.leg (ap (λ (b : Robot). b.motion) whole) in
    let d = ap (λ (b : Robot). b.damage) whole in
    rw (t, d) refl
