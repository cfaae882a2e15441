use Rattle.std.proofs.Common.{◌≡◌, ◌≤◌, ℕ, drop, length, map}
use Rattle.cycles.specs.Expressions.{arguments_span}
use Rattle.cycles.specs.Tables.{HasRuns}
use Rattle.cycles.specs.Told.{told}
use Rattle.cycles.specs.declared.spans.Span.{Span}
use Rattle.trees.specs.Trees.{arguments, expr_tree}
use Rattle.cycles.proofs.runs.Runs.+expressions.Given as goal

abbrev pub invariant-arguments-loop-index : goal.invariant-arguments-loop-index
invariant-arguments-loop-index l = record {
  within : l.index ≤ length l.exprs;
  so_far : (runs : ℕ → Span) → HasRuns l.self runs
      → l.span
      ≡ told (arguments_span l.self.counted l.self.profile runs (arguments (map expr_tree (drop l.index l.exprs))));
}

abbrev pub decreases-arguments-loop-index : goal.decreases-arguments-loop-index
decreases-arguments-loop-index l = l.index
