use Rattle.std.proofs.Common.{rules}
use Rattle.sinks.proofs.PenLemmas.{writes_nothing}
use Rattle.sinks.proofs.pen.Pen.new.Goals as goal

pub returns-clause-text : goal.returns-clause-text
returns-clause-text c = search (rules, writes_nothing)
