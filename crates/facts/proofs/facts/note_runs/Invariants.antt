use Rattle.std.specs.Prelude.{◌≡◌, length, map}
use Rattle.facts.specs.Facts.{cycles_told}
use Rattle.facts.proofs.facts.note_runs.Given as goal

-- cycles stay
abbrev pub invariant-loop-index : goal.invariant-loop-index
invariant-loop-index l = record {
  long : length l.parts ≡ length l.initial.parts;
  same : map cycles_told l.parts ≡ map cycles_told l.initial.parts;
}
