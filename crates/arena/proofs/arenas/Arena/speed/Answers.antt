use Rattle.std.proofs.Common.{◌∙◌, ap}
use Rattle.arena.specs.Arena.{Robot, motion_of, robot_of}
use Rattle.arena.proofs.arenas.Arena.speed.Goals as goal

pub returns-clause-stands : goal.returns-clause-stands
unfolding robot_of motion_of
returns-clause-stands c = λ f s. c.speed.ensures.value ∙ ap (λ (b : Robot). b.motion.speed) (c.robot.ensures.stands f s)
