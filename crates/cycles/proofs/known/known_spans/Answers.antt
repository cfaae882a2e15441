use Rattle.cycles.proofs.KnownSpans.{questions, runs, turns}
use Rattle.cycles.proofs.known.known_spans.Goals as goal

pub returns-clause-runs : goal.returns-clause-runs
returns-clause-runs c = runs

pub returns-clause-turns : goal.returns-clause-turns
returns-clause-turns c = turns

pub returns-clause-questions : goal.returns-clause-questions
returns-clause-questions c = questions
