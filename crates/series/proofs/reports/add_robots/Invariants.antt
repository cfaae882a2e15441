use Rattle.std.proofs.Common.{take, map}
use Rattle.sinks.specs.Pens.{MayFail, Adds}
use Rattle.series.specs.RobotNames.{robot_names}
use Rattle.series.specs.Reports.{robot_lines}
use Rattle.series.specs.Lines.{lines_text}
use Rattle.series.proofs.reports.add_robots.Given as goal

-- the lines of n robots are added
abbrev pub invariant-loop-robot : goal.invariant-loop-robot
invariant-loop-robot g l =
    MayFail l.pen (g.S.Sink.written l.sink)
    × Adds (g.S.Sink.written l.fn.sink) l.fn.pen
    (g.S.Sink.written l.sink) l.pen
    (lines_text (take l.robot (robot_lines (robot_names (map (λ word. word.now) l.words)) l.outcome)))
