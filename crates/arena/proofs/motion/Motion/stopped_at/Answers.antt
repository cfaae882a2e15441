use Rattle.std.proofs.Common.{◌∙◌}
use Rattle.arena.proofs.MotionLaws.{stopped_is}
use Rattle.arena.proofs.motion.Motion.stopped_at.Goals as goal

pub returns-clause-leg : goal.returns-clause-leg
returns-clause-leg c =
    λ leg e. c.on_new_leg.ensures ∙ stopped_is _ leg c.args.place.x c.args.place.y (c.self.view_is ∙ e)
