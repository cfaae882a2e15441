-- The name and the source of a robot.
use Rattle.std.specs.Prelude.{ℕ, List, take}
use Rattle.page.specs.declared.robots.RobotFile.{RobotFile}
use Rattle.series.specs.Compiling.{SourceFile}

abbrev pub name_bytes : RobotFile → List ℕ
name_bytes robot = take robot.name_size robot.name

abbrev pub source_bytes : RobotFile → List ℕ
source_bytes robot = take robot.source_size robot.source

-- the source file of a robot, which its name names
abbrev pub source_of : RobotFile → SourceFile
source_of robot = record { word = name_bytes robot; bytes = source_bytes robot }
