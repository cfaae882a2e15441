use Rattle.std.proofs.Common.{◌≡◌, ◌+◌, ◌≤◌, ◌++◌, ◌==◌, map, filter, take, length}
use Rattle.arena.specs.Outlook.{burst_by}
use Rattle.arena.proofs.slots.Slots.add_bursts.Given as goal

-- those so far that burst
abbrev pub invariant-loop-missile : goal.invariant-loop-missile
invariant-loop-missile l = record {
  bursts : l.bursts.items ≡
      l.initial.bursts.items ++
      map (burst_by l.robot) (filter (λ m. m.burst == l.update) (take l.missile-index l.missile-items));
  room : length l.bursts.items ≤ length l.initial.bursts.items + l.missile-index;
}
