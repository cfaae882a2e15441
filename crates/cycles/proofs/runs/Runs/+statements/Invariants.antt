use Rattle.std.proofs.Common.{◌≡◌, ◌≤◌, ℕ, drop, length}
use Rattle.cycles.specs.Statements.{ends_of}
use Rattle.cycles.specs.Tables.{HasRuns}
use Rattle.cycles.specs.Told.{told_ends}
use Rattle.cycles.specs.declared.spans.Span.{Span}
use Rattle.trees.specs.Trees.{body_tree}
use Rattle.cycles.proofs.runs.Runs.+statements.Given as goal

abbrev pub invariant-statements-loop-index : goal.invariant-statements-loop-index
invariant-statements-loop-index l = record {
  within : l.index ≤ length l.statements;
  so_far : (runs : ℕ → Span) → HasRuns l.self runs
      → l.ends ≡ told_ends (ends_of l.self.counted l.self.profile runs (body_tree (drop l.index l.statements)));
}

abbrev pub decreases-statements-loop-index : goal.decreases-statements-loop-index
decreases-statements-loop-index l = l.index
