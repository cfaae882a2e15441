use Rattle.std.proofs.Common.{◌≡◌}
use Rattle.cycles.specs.Runs.{run_within}
use Rattle.cycles.specs.Tables.{HasRuns, body_numbered}
use Rattle.cycles.proofs.runs.Runs.of.Given as goal

abbrev pub invariant-loop : goal.invariant-loop
invariant-loop l = record {
  counted : l.runs.counted ≡ l.fn.counted;
  profile : l.runs.profile ≡ l.fn.profile;
  so_far : HasRuns l.runs (run_within l.fn.counted l.fn.profile (body_numbered l.functions) l.counter);
}
