use Rattle.std.proofs.Common.{rules, ◌∙◌, ◌++◌, arith}
use Rattle.watching.proofs.Hearing.{none_seen, one_seen}
use Rattle.watching.proofs.cameras.Camera.look.Goals as goal

pub loop-robot-init : goal.loop-robot-init
loop-robot-init g c = record {
  kept = search rules;
  shown = search rules;
  robots = search rules;
  rest = search rules;
  heard = λ events f stands heard.
      none_seen (g.R.Listener.heard c.args.self.now.rows) events c.args.cycle c.args.self.now.seen f
      (g.R.Listener.shows c.args.self.now.rows c.args.cycle) heard;
}

pub loop-robot-preserved : goal.loop-robot-preserved
loop-robot-preserved g c = record {
  kept = search rules;
  shown = search rules;
  robots = search rules;
  rest = λ other behind.
      c.look_at.ensures.others other (λ same. absurd (omega (arith, same, behind)))
      ∙ c.loop-robot.invariant.rest other (omega (arith, behind));
  heard = λ events f stands heard.
      let n = c.loop-robot.robot in
      let told = c.look_at.ensures.heard _ f stands (c.loop-robot.invariant.heard events f stands heard) in
      one_seen (g.R.Listener.heard c.look_at.new.self.rows) events c.args.cycle n c.args.self.now.seen f
      (g.R.Listener.shows c.args.self.now.rows c.args.cycle)
      (rw (c.loop-robot.invariant.rest n (omega arith), c.loop-robot.invariant.shown) at told);
}
