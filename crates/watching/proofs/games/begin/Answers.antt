use Rattle.std.proofs.Common.{◌∙◌, arith}
use Rattle.watching.specs.Played.{codes_of}
use Rattle.watching.proofs.Playing.{codes_stay, one_begun}
use Rattle.watching.proofs.games.begin.Goals as goal

pub loop-robot-preserved : goal.loop-robot-preserved
loop-robot-preserved c = record {
  codes =
      codes_stay c.loop-robot.pilots c.loop-robot.robot c.index-pilots-robot.result c.begin.new.self
      c.begin.ensures.program
      ∙ c.loop-robot.invariant.codes;
  begun =
      one_begun (codes_of c.args.pilots.now) c.loop-robot.pilots c.loop-robot.robot c.index-pilots-robot.result
      c.begin.new.self c.loop-robot.invariant.codes (omega arith) c.begin.ensures.begins
      c.loop-robot.invariant.begun;
}
