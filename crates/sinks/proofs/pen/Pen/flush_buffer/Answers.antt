use Rattle.std.proofs.Common.{rules}
use Rattle.sinks.proofs.PenLemmas.{page_put}
use Rattle.sinks.proofs.pen.Pen.flush_buffer.Goals as goal

pub returns-then-not-self-clause-text : goal.returns-then-not-self-clause-text
returns-then-not-self-clause-text g c = search (rules, page_put)
