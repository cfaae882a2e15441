use Rattle.arena.proofs.MotionLaws.{only_turns_is}
use Rattle.arena.proofs.motion.Motion.adjust.Goals as goal

pub returns-then-only_turns-clause-leg : goal.returns-then-only_turns-clause-leg
returns-then-only_turns-clause-leg c = λ leg e.
    only_turns_is _ _ leg e (c.only_turns.ensures c.if-only_turns.true) (c.turned_to_wanted.ensures.leg leg e)
