use Rattle.std.proofs.Common.{ℕ, ◌<◌, ◌*◌, ◌<ℤ◌}
use Rattle.arith.specs.Bearing.{projection_of}
use Rattle.arith.proofs.bearings.bearing.Given as goal

-- at no degree so far the point reaches furthest
abbrev pub invariant-loop-chunk : goal.invariant-loop-chunk
invariant-loop-chunk l = (degree : ℕ) → degree < 8 * l.chunk → projection_of l.dx l.dy degree <ℤ l.furthest
