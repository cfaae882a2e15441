use Rattle.std.proofs.Common.{rules}
use Rattle.sinks.proofs.PenLemmas.{fragment_put}
use Rattle.sinks.proofs.pen.Pen.put_unbuffered.Goals as goal

pub returns-then-not-self-clause-text : goal.returns-then-not-self-clause-text
returns-then-not-self-clause-text g c = search (rules, fragment_put)
