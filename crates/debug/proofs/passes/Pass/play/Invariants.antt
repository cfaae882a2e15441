use Rattle.std.specs.Prelude.{◌≡◌, length}
use Rattle.debug.proofs.passes.Pass.play.Given as goal

-- each robot has its pilot
abbrev pub invariant-loop : goal.invariant-loop
invariant-loop l = length l.game.arena.robots ≡ length l.pilots
