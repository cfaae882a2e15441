use Rattle.std.proofs.Common.{◌∙◌, ap}
use Rattle.arena.specs.Arena.{Robot, robot_of}
use Rattle.arena.proofs.arenas.Arena.damage.Goals as goal

pub returns-clause-stands : goal.returns-clause-stands
unfolding robot_of
returns-clause-stands c = λ f s. c.damage.ensures.value ∙ ap (λ (b : Robot). b.damage) (c.robot.ensures.stands f s)
