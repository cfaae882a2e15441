use Rattle.std.proofs.Common.{◌≡◌, ◌++◌, map, take, drop}
use Rattle.watching.specs.Shots.{marked}
use Rattle.watching.proofs.shots.mark.Given as goal

-- the first shots are marked, the others are as they were
abbrev pub invariant-loop-shot : goal.invariant-loop-shot
invariant-loop-shot l =
    l.shots ≡ map (marked l.update l.place) (take l.shot-index l.fn.shots) ++ drop l.shot-index l.fn.shots
