use Rattle.std.proofs.Common.{map, to_z}
use Rattle.std.specs.Int.{w32}
use Rattle.arith.proofs.BearingLemmas.{IsMostSoFar}
use Rattle.arith.proofs.bearings.greatest_projection.Given as goal

-- each lane holds the greatest of its reaches so far
abbrev pub invariant-loop-chunk : goal.invariant-loop-chunk
invariant-loop-chunk l = IsMostSoFar l.dx l.dy (map (to_z w32) l.most) l.chunk
