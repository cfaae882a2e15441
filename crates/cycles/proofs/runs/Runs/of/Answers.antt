use Rattle.std.proofs.Common.{◌∙◌}
use Rattle.cycles.specs.Runs.{run_within}
use Rattle.cycles.specs.Tables.{body_numbered}
use Rattle.cycles.proofs.Tables.{one_round}
use Rattle.cycles.proofs.runs.Runs.of.Goals as goal

pub loop-preserved : goal.loop-preserved
loop-preserved c =
    let bodies = body_numbered c.functions-functions.result.now in
    record {
      counted = c.round-runs.ensures.counted ∙ c.loop.invariant.counted;
      profile = c.round-runs.ensures.profile ∙ c.loop.invariant.profile;
      so_far =
          one_round c.round-runs.result c.loop.runs.counted c.args.counted c.loop.runs.profile c.args.profile bodies
          c.loop.counter c.loop.invariant.counted c.loop.invariant.profile
          (c.round-runs.ensures.runs (run_within c.args.counted c.args.profile bodies c.loop.counter)
          c.loop.invariant.so_far);
    }
