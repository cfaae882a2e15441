use Rattle.std.proofs.Common.{◌≡◌, ◌≤◌, ◌*◌, length}
use Rattle.std.specs.List.{flat_map, range_with_len}
use Rattle.arena.proofs.DueBursts.{slot_bursts}
use Rattle.arena.proofs.slots.bursts_of_slots.Given as goal

-- the bursts of the robots so far
abbrev pub invariant-loop-robot : goal.invariant-loop-robot
invariant-loop-robot l = record {
  room : length l.bursts.items ≤ 2 * l.robot;
  bursts : l.bursts.items ≡ flat_map (slot_bursts l.update l.slots) (range_with_len 0 l.robot);
}
