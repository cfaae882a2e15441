use Rattle.std.proofs.Common.{ap, ◌<◌, ◌≤◌, List, ℕ, length, map, arith}
use Rattle.std.proofs.lemmas.List.{take_all}
use Rattle.series.specs.RobotNames.{robot_names}
use Rattle.series.specs.Reports.{robot_lines}
use Rattle.series.proofs.LinesLemmas.{lines_text_then}
use Rattle.series.proofs.TextsLemmas.{robot_line_at, length_robot_lines}
use Rattle.series.proofs.reports.add_robots.Goals as goal

pub add_robot-requires-clause-countable : goal.add_robot-requires-clause-countable
add_robot-requires-clause-countable g c = c.loop-robot.invariant.0

pub loop-robot-preserved : goal.loop-robot-preserved
loop-robot-preserved g c =
    let names : List (List ℕ) = robot_names (map (λ word. word.now) c.args.words.now) in
    let here : c.loop-robot.robot < length c.args.outcome.now.damages =
    omega (arith, ap length c.damages-robot-end.ensures.value) in
    let within : c.loop-robot.robot < length (robot_lines names c.args.outcome.now) =
    omega (arith, length_robot_lines names c.args.outcome.now) in (
      c.add_robot.ensures.countable,
      λ before text so_far.
          rw (
            lines_text_then text (robot_lines names c.args.outcome.now) c.loop-robot.robot within,
            robot_line_at names c.args.outcome.now c.loop-robot.robot c.robot_name.result.now here c.robot_name.ensures,
          )
          (c.add_robot.ensures.text before _ (c.loop-robot.invariant.1 before text so_far)),
    )

pub returns : goal.returns
returns g c =
    let names : List (List ℕ) = robot_names (map (λ word. word.now) c.args.words.now) in
    let past : length (robot_lines names c.args.outcome.now) ≤ c.loop-robot.robot =
    omega (arith, ap length c.damages-robot-end.ensures.value, length_robot_lines names c.args.outcome.now) in
    record {
      countable = c.loop-robot.invariant.0;
      text = rw (take_all c.loop-robot.robot (robot_lines names c.args.outcome.now) past) at c.loop-robot.invariant.1;
    }
