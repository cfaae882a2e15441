use Rattle.std.proofs.Common.{◌∙◌}
use Rattle.arena.proofs.MotionLaws.{standing_is}
use Rattle.arena.proofs.motion.Motion.at_rest.Goals as goal

pub returns : goal.returns
returns c = c.on_new_leg.ensures ∙ standing_is c.args.place.x c.args.place.y
