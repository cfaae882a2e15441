use Rattle.std.proofs.Common.{◌≡◌, sym, ap, ◌∙◌}
use Rattle.arena.specs.Leg.{steered, sped, stopped_by_walls, tried}
use Rattle.arena.specs.Arena.{Motion, motion_of}
use Rattle.arena.proofs.MotionLaws.{keeps_course}
use Rattle.arena.proofs.motion.Motion.move_within_walls.Goals as goal
use Rattle.arena.proofs.motion.Motion.move_within_walls.Goals.{then-not-self, else-not-self}

pub returns-clause-motion : goal.returns-clause-motion
unfolding stopped_by_walls tried
returns-clause-motion c = λ leg e.
    let course : c.if-not-self.self ≡ motion_of (sped (steered leg)) = elim c.if-not-self.branch [
      | then-not-self w ↦ w.self-is ∙ w.adjust.ensures.leg leg e
      | else-not-self w ↦ w.self-is ∙
          keeps_course _ leg e (sym (ap (λ (t : Motion). t.steady) c.self.view_is) ∙ w.if-not-self.false)
    ] in
    c.drive_straight.ensures.motion (sped (steered leg)) course

pub returns-clause-walled : goal.returns-clause-walled
unfolding tried
returns-clause-walled c = λ leg e.
    let course : c.if-not-self.self ≡ motion_of (sped (steered leg)) = elim c.if-not-self.branch [
      | then-not-self w ↦ w.self-is ∙ w.adjust.ensures.leg leg e
      | else-not-self w ↦ w.self-is ∙
          keeps_course _ leg e (sym (ap (λ (t : Motion). t.steady) c.self.view_is) ∙ w.if-not-self.false)
    ] in
    c.drive_straight.ensures.walled (sped (steered leg)) course
