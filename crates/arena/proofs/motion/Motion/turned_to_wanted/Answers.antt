use Rattle.std.proofs.Common.{◌∙◌, ap}
use Rattle.arena.specs.Point.{Point}
use Rattle.arena.specs.Arena.{Motion, motion_of}
use Rattle.arena.proofs.MotionLaws.{turned_is}
use Rattle.arena.proofs.motion.Motion.turned_to_wanted.Goals as goal

pub returns-clause-leg : goal.returns-clause-leg
unfolding motion_of
returns-clause-leg c = λ leg e.
    c.on_new_leg.ensures ∙
    turned_is _ leg c.place.result.x c.place.result.y (c.self.view_is ∙ e)
    (ap (λ (p : Point). p.x) c.place.ensures ∙ ap (λ (t : Motion). t.x) e)
    (ap (λ (p : Point). p.y) c.place.ensures ∙ ap (λ (t : Motion). t.y) e)
