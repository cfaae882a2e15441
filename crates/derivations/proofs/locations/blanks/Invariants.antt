use Rattle.std.proofs.Common.{◌≤◌, length}
use Rattle.derivations.proofs.Placing.{IsCounted}
use Rattle.derivations.proofs.locations.blanks.Given as goal

abbrev pub invariant-loop-blank : goal.invariant-loop-blank
invariant-loop-blank l = record {
  within : l.passed ≤ length l.bytes;
  counted : IsCounted l.bytes l._blank l.passed;
}
