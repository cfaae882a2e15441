use Rattle.cycles.proofs.Tables.{nothing_known}
use Rattle.cycles.proofs.runs.Runs.unknown.Goals as goal

pub returns-clause-runs : goal.returns-clause-runs
returns-clause-runs c = record { each = λ k. nothing_known 256 k c.anything-other.result c.anything-other.ensures }
