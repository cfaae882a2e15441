use Rattle.std.proofs.Common.{◌≡◌, ◌∙◌, ap, length, arith}
use Rattle.std.specs.List.{flat_map, range_with_len}
use Rattle.arena.proofs.DueBursts.{slot_bursts, robot_more, all_bursts, harm_like_shots, same_harm}
use Rattle.arena.proofs.slots.bursts_of_slots.Goals as goal

pub loop-robot-preserved : goal.loop-robot-preserved
loop-robot-preserved c = record {
  room = omega (arith, c.add_bursts.ensures.most, c.loop-robot.invariant.room);
  bursts = robot_more c.args.update c.args.slots.now c.loop-robot.robot c.index-slots-robot.result
      c.loop-robot.bursts.items c.add_bursts.new.bursts.items c.loop-robot-test.true c.index-slots-robot.is
      c.loop-robot.invariant.bursts c.add_bursts.ensures.bursts;
}

pub returns-clause-bursts : goal.returns-clause-bursts
returns-clause-bursts c = λ updates shots holds.
    let all : c.loop-robot.robot ≡ length c.args.slots.now = omega arith in
    c.loop-robot.invariant.bursts ∙
    ap (λ n. flat_map (slot_bursts c.args.update c.args.slots.now) (range_with_len 0 n)) all ∙
    all_bursts c.args.update updates c.args.slots.now shots holds

pub returns-clause-harm : goal.returns-clause-harm
returns-clause-harm c = λ updates shots u holds.
    same_harm c.args.update shots _ _ (returns-clause-bursts c updates shots holds)
    (harm_like_shots updates c.args.update (length c.args.slots.now) shots u holds.owned)
