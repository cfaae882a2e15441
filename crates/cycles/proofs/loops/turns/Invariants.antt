use Rattle.std.proofs.Common.{◌≡◌, ℕ, take}
use Rattle.cycles.specs.Loops.{all_rows}
use Rattle.cycles.specs.Tables.{HasRuns}
use Rattle.cycles.specs.declared.spans.Span.{Span}
use Rattle.cycles.proofs.loops.turns.Given as goal

abbrev pub invariant-loop-function : goal.invariant-loop-function
invariant-loop-function l =
    (c q : ℕ → Span) → HasRuns l.cycles c → HasRuns l.questions q
    → l.turns.items ≡ all_rows l.cycles l.questions c q (take l.function-index l.maker.functions)
