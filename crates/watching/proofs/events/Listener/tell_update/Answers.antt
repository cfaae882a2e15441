use Rattle.std.proofs.Common.{rules, ◌∙◌, ◌++◌, arith}
use Rattle.std.proofs.lemmas.List.{take_all}
use Rattle.watching.specs.Heard.{losses_heard}
use Rattle.watching.proofs.Hearing.{none_lost, one_lost}
use Rattle.watching.proofs.events.Listener.tell_update.Goals as goal

pub loop-robot-init : goal.loop-robot-init
loop-robot-init g c = record {
  kept = search rules;
  shown = search rules;
  heard = λ events f stands few heard. none_lost (g.Self.Listener.heard c.loop-burst.self) events c.args.cycle f heard;
}

pub loop-robot-preserved : goal.loop-robot-preserved
loop-robot-preserved g c = record {
  kept = search rules;
  shown = search rules;
  heard = λ events f stands few heard.
      let n = c.loop-robot.robot in
      let losses = c.as_slice-parts.result.now in
      one_lost (g.Self.Listener.heard c.loop-loss.self) events c.args.cycle n f losses
      (c.as_slice-parts.ensures.value ∙ c.losses-lost.ensures.parts f stands few)
      (rw (take_all c.loop-loss.loss-index losses (omega arith)) at
      (c.loop-loss.invariant.heard (events ++ losses_heard c.args.cycle f n)
      (c.loop-robot.invariant.heard events f stands few heard)));
}
