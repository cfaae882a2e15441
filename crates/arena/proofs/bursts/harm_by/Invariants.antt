use Rattle.std.proofs.Common.{◌≡◌, ◌≤◌, ◌*◌, map, take, sum}
use Rattle.arena.specs.Due.{burst_damage}
use Rattle.arena.proofs.bursts.harm_by.Given as goal

-- the damage of those so far
abbrev pub invariant-loop-burst : goal.invariant-loop-burst
invariant-loop-burst l = record {
  most : l.damage ≤ 10 * l.burst-index;
  harms : l.damage ≡ sum (map (burst_damage l.place.x l.place.y) (take l.burst-index l.bursts));
}
