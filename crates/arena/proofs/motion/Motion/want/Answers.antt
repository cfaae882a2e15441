use Rattle.std.proofs.Common.{arith}
use Rattle.std.proofs.lemmas.Int.{to_z-of_z}
use Rattle.arena.proofs.MotionLaws.{wanting_is}
use Rattle.arena.proofs.motion.Motion.want.Goals as goal

pub returns-clause-leg : goal.returns-clause-leg
returns-clause-leg c =
    λ leg e. let h = wanting_is _ leg c.args.degree c.args.speed e in grind (arith, to_z-of_z)
