-- The names of robots.
use Rattle.std.specs.Prelude.{ℕ, List, map}
use Rattle.battles.specs.Pairing.{paired}
use Rattle.sinks.specs.Texts.{file_name}

-- the name of each robot's file, by the words of the files: a single file is two robots
abbrev pub robot_names : List (List ℕ) → List (List ℕ)
robot_names words = paired (map file_name words)
