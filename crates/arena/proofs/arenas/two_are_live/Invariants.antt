use Rattle.std.proofs.Common.{◌≡◌, take, cond, nat_lt}
use Rattle.std.specs.List.{count_by}
use Rattle.arena.specs.Arena.{Robot}
use Rattle.arena.proofs.arenas.two_are_live.Given as goal

-- at most one so far lives
abbrev pub invariant-loop-robot : goal.invariant-loop-robot
invariant-loop-robot l =
    count_by (λ (b : Robot). nat_lt b.damage 100) (take l.robot-index l.robots) ≡ cond l.one_lives 1 0
