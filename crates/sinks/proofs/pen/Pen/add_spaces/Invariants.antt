use Rattle.std.proofs.Common.{replicate}
use Rattle.sinks.specs.Pens.{MayFail, Adds}
use Rattle.sinks.proofs.pen.Pen.add_spaces.Given as goal

-- this many spaces are added
abbrev pub invariant-loop : goal.invariant-loop
invariant-loop g l =
    MayFail l.self (g.S.Sink.written l.sink)
    × Adds (g.S.Sink.written l.fn.sink) l.fn.self (g.S.Sink.written l.sink) l.self (replicate l.counter 32)
