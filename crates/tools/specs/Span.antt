-- Which robots and cycles a span is of.
use Rattle.std.specs.Prelude.{ℕ, ◌≡◌, ◌<◌, ◌-◌, List, Option, Some, None, codes, option_map, if◌then◌else◌, nat_le}
use Rattle.settings.specs.Given.{number_or_default}
use Rattle.settings.specs.Numbers.{value_number}
use Rattle.settings.specs.SettingsLimits.{most_cycles}
use Rattle.tools.specs.declared.options.Options.{Options}
use Rattle.tools.specs.declared.spans.Span.{Span}
use Rattle.tools.specs.Given.{value_of}

-- the robot, or any if none is named
abbrev pub IsOfRobot : Option ℕ → ℕ → Type 0
IsOfRobot None robot = Unit {0}
IsOfRobot (Some only) robot = robot ≡ only

-- one of n robots, or none is named
abbrev pub IsOfRobots : Option ℕ → ℕ → Type 0
IsOfRobots None robots = Unit {0}
IsOfRobots (Some only) robots = only < robots

-- the robot that a text names, by its number from 1 to n; all if no text is given, and none if it is no such number
abbrev pub robot_named : ℕ → Option (List ℕ) → Option (Option ℕ)
robot_named robots None = Some None
robot_named robots (Some text) = option_map (λ number. Some (number - 1)) (value_number 1 robots text)

-- from a first cycle to a last one, if they are in order
abbrev pub span_of : Option (Option ℕ) → (from to : Option ℕ) → Option Span
span_of (Some robot) (Some from) (Some to) =
    if nat_le from to then Some (record { robot = robot; from = from; to = to }) else None
span_of robot from to = None

-- what is asked for by `--robot`, `--from` and `--to` of n robots
abbrev pub span_asked : Options → ℕ → Option Span
span_asked options robots = span_of (robot_named robots (value_of options (codes "robot")))
    (number_or_default 0 most_cycles 0 (value_of options (codes "from")))
    (number_or_default 0 most_cycles most_cycles (value_of options (codes "to")))
