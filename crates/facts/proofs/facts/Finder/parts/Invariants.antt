use Rattle.std.specs.Prelude.{◌≡◌, map}
use Rattle.facts.specs.Facts.{cycles_told}
use Rattle.facts.proofs.facts.Finder.parts.Given as goal

-- cycles stay
abbrev pub invariant-loop-kind : goal.invariant-loop-kind
invariant-loop-kind l = record {
  functions : map cycles_told l.functions.items ≡ map cycles_told l.initial.functions.items;
  loops : map cycles_told l.loops.items ≡ map cycles_told l.initial.loops.items;
}
