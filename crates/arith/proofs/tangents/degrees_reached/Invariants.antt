use Rattle.std.proofs.Common.{◌-◌, ◌<◌, ◌≤◌}
use Rattle.arith.specs.Arctangent.{bound_of}
use Rattle.arith.proofs.tangents.degrees_reached.Given as goal

abbrev pub invariant-halves : goal.invariant-halves
invariant-halves l = record {
  order : l.reached < l.missed;
  most : l.missed ≤ 91;
  reached : 0 < l.reached → bound_of l.reached ≤ l.size;
  missed : l.missed < 91 → l.size < bound_of l.missed;
}

abbrev pub decreases-halves : goal.decreases-halves
decreases-halves l = l.missed - l.reached
