use Rattle.std.proofs.Common.{◌≡◌, length}
use Rattle.sinks.specs.Portions.{TakesAllBut, TakesWhole}
use Rattle.sinks.proofs.PortionsLemmas.{InOneCall}
use Rattle.sinks.proofs.sink.put_all.Given as goal

-- the sink took the bytes but for the rest, and refused nothing; one that takes each put whole took them by one call
abbrev pub invariant-loop-rest : goal.invariant-loop-rest
invariant-loop-rest g l =
    TakesAllBut (g.S.Sink.written l.fn.sink).portions (g.S.Sink.written l.sink).portions l.bytes l.rest
    × ((g.S.Sink.written l.sink).failures ≡ (g.S.Sink.written l.fn.sink).failures)
    ×
    (TakesWhole (g.S.Sink.written l.fn.sink).portions →
    InOneCall (g.S.Sink.written l.fn.sink).portions (g.S.Sink.written l.sink).portions l.bytes l.rest)

abbrev pub decreases-loop-rest : goal.decreases-loop-rest
decreases-loop-rest g l = length l.rest
