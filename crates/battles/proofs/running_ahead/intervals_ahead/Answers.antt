use Rattle.std.proofs.Common.{◌≡◌, length, inl, inr, arith}
use Rattle.battles.proofs.Passed.{not_ahead}
use Rattle.battles.proofs.running_ahead.intervals_ahead.Goals as goal

pub returns-clause-all : goal.returns-clause-all
returns-clause-all c =
    let all : c.loop-robot.robot ≡ length c.args.runners.now =
    omega (arith, c.loop-robot-test.false, c.loop-robot.auto) in
    elim c.loop-robot.invariant.all [
      | inl same ↦ inl same
      | inr one ↦ inr (rw all at (not_ahead _ _ _ _ one))
    ]
