use Rattle.std.proofs.Common.{◌≡◌, Some, false, map, take}
use Rattle.std.specs.Prelude.{All}
use Rattle.page.specs.Robots.{source_bytes}
use Rattle.page.proofs.running.feeds_of.Given as goal

-- the sources of the robots so far
abbrev pub invariant-loop-robot : goal.invariant-loop-robot
invariant-loop-robot l =
    (map (λ feed. Some feed.rest.now) l.feeds.items ≡
    map (λ robot. Some (source_bytes robot)) (take l.robot-index l.robots))
    × All (λ feed. feed.ended ≡ false) l.feeds.items
