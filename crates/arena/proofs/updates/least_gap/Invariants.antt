use Rattle.std.proofs.Common.{◌≤◌, ◌/◌, take}
use Rattle.std.specs.List.{All}
use Rattle.arena.specs.Arena.{Robot}
use Rattle.arena.specs.Apart.{gap}
use Rattle.arena.proofs.updates.least_gap.Given as goal

-- the least gap so far
abbrev pub invariant-loop-other : goal.invariant-loop-other
invariant-loop-other l = record {
  less : l.least ≤ l.so_far;
  least : All (λ (other : Robot). l.least / 100000 ≤ gap l.robot.motion other.motion) (take l.other-index l.others);
}
