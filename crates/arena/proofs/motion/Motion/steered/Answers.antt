use Rattle.std.proofs.Common.{◌∙◌, sym, arith}
use Rattle.std.proofs.lemmas.Int.{to_z-of_z}
use Rattle.arena.proofs.MotionLaws.{keeps_heading, turns_is, brakes_is}
use Rattle.arena.proofs.motion.Motion.steered.Goals as goal

pub returns-then-self-clause-leg : goal.returns-then-self-clause-leg
returns-then-self-clause-leg c = λ leg e.
    sym c.self.view_is ∙ keeps_heading _ leg (c.self.view_is ∙ e) c.if-self.true

pub returns-then-self-le-TURNING_SPEED-clause-leg : goal.returns-then-self-le-TURNING_SPEED-clause-leg
returns-then-self-le-TURNING_SPEED-clause-leg c = λ leg e.
    turns_is _ _ leg (c.self.view_is ∙ e) (c.turned_to_wanted.ensures.leg leg e) c.if-self.false
    c.if-self-le-TURNING_SPEED.true

pub returns-else-self-le-TURNING_SPEED-clause-leg : goal.returns-else-self-le-TURNING_SPEED-clause-leg
returns-else-self-le-TURNING_SPEED-clause-leg c = λ leg e.
    let h = brakes_is _ leg (c.self.view_is ∙ e) c.if-self.false c.if-self-le-TURNING_SPEED.false in
    grind (arith, to_z-of_z)
