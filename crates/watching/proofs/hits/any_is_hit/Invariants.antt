use Rattle.std.proofs.Common.{◌≡◌, false, take}
use Rattle.std.specs.List.{All}
use Rattle.arena.specs.Field.{Field}
use Rattle.arena.specs.Representing.{RepresentsField}
use Rattle.watching.proofs.Hitting.{hitting}
use Rattle.watching.proofs.hits.any_is_hit.Given as goal

-- no burst so far is one of the robot that hurts another one
abbrev pub invariant-loop-burst : goal.invariant-loop-burst
invariant-loop-burst l = (f : Field) → RepresentsField l.arena f
    → All (λ burst. hitting f l.robot burst ≡ false) (take l.burst-index l.bursts)
