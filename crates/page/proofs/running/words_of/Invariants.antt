use Rattle.std.proofs.Common.{◌≡◌, ◌≤◌, map, take, length}
use Rattle.std.specs.Prelude.{All, IsUtf8}
use Rattle.settings.specs.SettingsLimits.{most_files}
use Rattle.page.specs.Robots.{name_bytes}
use Rattle.page.proofs.running.words_of.Given as goal

-- the names of the robots so far, which are texts
abbrev pub invariant-loop-robot : goal.invariant-loop-robot
invariant-loop-robot l = (map (λ word. word.now) l.words.items ≡ map name_bytes (take l.robot-index l.robots))
    × (length l.words.items ≤ most_files)
    × All (λ robot. IsUtf8 (name_bytes robot)) (take l.robot-index l.robots)
