use Rattle.std.proofs.Common.{take, map}
use Rattle.series.specs.SeriesSteps.{score_at}
use Rattle.sinks.specs.Pens.{MayFail, Adds}
use Rattle.series.specs.RobotNames.{robot_names}
use Rattle.series.specs.Totals.{score_lines}
use Rattle.series.specs.Lines.{lines_text}
use Rattle.series.proofs.totals.add_scores.Given as goal

-- the lines of n robots are added
abbrev pub invariant-loop-robot : goal.invariant-loop-robot
invariant-loop-robot g l =
    MayFail l.pen (g.S.Sink.written l.sink)
    × Adds (g.S.Sink.written l.fn.sink) l.fn.pen
    (g.S.Sink.written l.sink) l.pen
    (lines_text (take l.robot (score_lines (robot_names (map (λ word. word.now) l.words)) (score_at l.tally))))
