use Rattle.std.proofs.Common.{◌≡◌, ◌≤◌, ◌<◌, ℕ, drop, get_or, length}
use Rattle.cycles.specs.Runs.{run_of}
use Rattle.cycles.specs.Statements.{ends_of}
use Rattle.cycles.specs.Tables.{HasRuns, first_numbered}
use Rattle.cycles.specs.Told.{told}
use Rattle.cycles.specs.declared.spans.Span.{Span}
use Rattle.cycles.proofs.runs.Runs.round.Given as goal

abbrev pub invariant-loop-index : goal.invariant-loop-index
invariant-loop-index l = record {
  within : l.index ≤ length l.functions;
  size : length l.spans ≡ 256;
  so_far : (runs : ℕ → Span) → HasRuns l.self runs → (k : ℕ) → k < 256
      → get_or l.spans k l.other
      ≡ told (run_of l.self.counted
      (ends_of l.self.counted l.self.profile runs (first_numbered (drop l.index l.functions) k)));
}

abbrev pub decreases-loop-index : goal.decreases-loop-index
decreases-loop-index l = l.index
