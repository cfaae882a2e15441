use Rattle.std.proofs.Common.{rules}
use Rattle.sinks.proofs.PenLemmas.{piece_put}
use Rattle.sinks.proofs.pen.Pen.finish.Goals as goal

pub returns : goal.returns
returns g c = search (rules, piece_put)
