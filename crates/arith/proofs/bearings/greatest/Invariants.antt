use Rattle.std.proofs.Common.{◌≡◌, take, pos, get_or}
use Rattle.std.specs.Int.{int_max}
use Rattle.std.specs.List.{fold}
use Rattle.arith.proofs.bearings.greatest.Given as goal

-- the greatest so far
abbrev pub invariant-loop-number : goal.invariant-loop-number
invariant-loop-number l = l.most ≡ fold int_max (get_or l.number-items 0 (pos 0)) (take l.number-index l.number-items)
