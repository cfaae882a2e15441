use Rattle.std.proofs.Common.{◌≡◌, length}
use Rattle.drills.proofs.field.scans.Given as goal

abbrev pub invariant-loop-n : goal.invariant-loop-n
invariant-loop-n l = length l.arena.robots ≡ 4
