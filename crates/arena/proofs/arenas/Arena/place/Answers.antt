use Rattle.std.proofs.Common.{◌∙◌, ap}
use Rattle.arena.specs.Point.{Point}
use Rattle.arena.specs.Arena.{Robot, motion_of, robot_of}
use Rattle.arena.proofs.arenas.Arena.place.Goals as goal

pub returns-clause-x : goal.returns-clause-x
unfolding robot_of motion_of
returns-clause-x c = λ f s.
    c.x.ensures.value ∙ ap (λ (p : Point). p.x) c.place-place.ensures ∙
    ap (λ (b : Robot). b.motion.x) (c.robot.ensures.stands f s)

pub returns-clause-y : goal.returns-clause-y
unfolding robot_of motion_of
returns-clause-y c = λ f s.
    c.y.ensures.value ∙ ap (λ (p : Point). p.y) c.place-place.ensures ∙
    ap (λ (b : Robot). b.motion.y) (c.robot.ensures.stands f s)
