use Rattle.std.proofs.Common.{◌∙◌, ap}
use Rattle.arena.specs.Arena.{Robot, motion_of, robot_of}
use Rattle.arena.proofs.arenas.Arena.heading.Goals as goal

pub returns-clause-stands : goal.returns-clause-stands
unfolding robot_of motion_of
returns-clause-stands c =
    λ f s. c.heading.ensures.value ∙ ap (λ (b : Robot). b.motion.heading) (c.robot.ensures.stands f s)
