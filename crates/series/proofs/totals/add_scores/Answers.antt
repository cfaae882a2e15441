use Rattle.std.proofs.Common.{◌≡◌, ◌<◌, ◌≤◌, ap, List, ℕ, length, map, get_or, arith}
use Rattle.std.proofs.lemmas.List.{take_all}
use Rattle.series.specs.declared.totals.Score.{Score}
use Rattle.series.specs.SeriesSteps.{no_score, score_at}
use Rattle.series.specs.RobotNames.{robot_names}
use Rattle.series.specs.Totals.{score_lines}
use Rattle.series.proofs.LinesLemmas.{lines_text_then}
use Rattle.series.proofs.TextsLemmas.{score_line_at, length_score_lines, length_robot_names, robots_there}
use Rattle.series.proofs.totals.add_scores.Goals as goal

pub robot_name-requires : goal.robot_name-requires
robot_name-requires g c = omega (arith, robots_there c.args.words.now c.requires.some, c.max-robot-end.ensures)

pub add_score-requires-clause-countable : goal.add_score-requires-clause-countable
add_score-requires-clause-countable g c = c.loop-robot.invariant.0

pub loop-robot-preserved : goal.loop-robot-preserved
loop-robot-preserved g c =
    let names : List (List ℕ) = robot_names (map (λ word. word.now) c.args.words.now) in
    let scores : ℕ → Score = score_at c.args.tally.now in
    let score : get_or c.tally.inside.scores c.loop-robot.robot no_score ≡ scores c.loop-robot.robot =
    ap (λ t. score_at t c.loop-robot.robot) c.tally.view_is in
    let there : c.loop-robot.robot < length names =
    omega (
      arith,
      length_robot_names (λ word. word.now) c.args.words.now,
      robots_there c.args.words.now c.requires.some,
      c.max-robot-end.ensures,
    ) in
    let within : c.loop-robot.robot < length (score_lines names scores) =
    omega (arith, length_score_lines names scores) in (
      c.add_score.ensures.countable,
      λ before text so_far.
          rw (
            lines_text_then text (score_lines names scores) c.loop-robot.robot within,
            score_line_at names scores c.loop-robot.robot c.robot_name.result.now there c.robot_name.ensures,
          )
          (rw score at (c.add_score.ensures.text before _ (c.loop-robot.invariant.1 before text so_far))),
    )

pub returns : goal.returns
returns g c =
    let names : List (List ℕ) = robot_names (map (λ word. word.now) c.args.words.now) in
    let scores : ℕ → Score = score_at c.args.tally.now in
    let past : length (score_lines names scores) ≤ c.loop-robot.robot =
    omega (
      arith,
      length_score_lines names scores,
      length_robot_names (λ word. word.now) c.args.words.now,
      robots_there c.args.words.now c.requires.some,
      c.max-robot-end.ensures,
    ) in
    record {
      countable = c.loop-robot.invariant.0;
      text = rw (take_all c.loop-robot.robot (score_lines names scores) past) at c.loop-robot.invariant.1;
    }
