use Rattle.std.proofs.Common.{arith, sym, ◌∙◌}
use Rattle.std.proofs.lemmas.Grind.{common_steps}
use Rattle.battles.proofs.Beginnings.{damages_none, damages_more}
use Rattle.battles.proofs.battles.damages.Goals as goal

pub loop-robot-init : goal.loop-robot-init
loop-robot-init c = record {
  damages = λ f stands. c.new-damages.ensures ∙ sym (damages_none f);
  each = grind (arith, common_steps);
  most = grind (arith, common_steps);
}

pub loop-robot-preserved : goal.loop-robot-preserved
loop-robot-preserved c = record {
  damages = λ f stands.
      let before = c.loop-robot.invariant.damages f stands in
      let here = c.damage.ensures.stands f stands in
      let more = damages_more c.loop-robot.robot f in
      cc (c.push.ensures.items);
  each = omega arith;
  most = grind (arith, common_steps);
}
