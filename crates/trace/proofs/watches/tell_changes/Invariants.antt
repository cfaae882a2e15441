use Rattle.std.proofs.Common.{◌≡◌, length}
use Rattle.trace.proofs.watches.tell_changes.Given as goal

-- the field has as many robots as there are pilots
abbrev pub invariant-loop : goal.invariant-loop
invariant-loop l = record { manned : length l.game.arena.robots ≡ length l.pilots }
