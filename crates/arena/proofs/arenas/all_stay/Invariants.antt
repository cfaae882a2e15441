use Rattle.std.proofs.Common.{take}
use Rattle.std.specs.List.{All}
use Rattle.arena.specs.Still.{Stays}
use Rattle.arena.proofs.arenas.all_stay.Given as goal

-- all so far stay
abbrev pub invariant-loop-robot : goal.invariant-loop-robot
invariant-loop-robot l = All Stays (take l.robot-index l.robots)
