use Rattle.std.proofs.Common.{take}
use Rattle.listings.specs.Listing.{function_lines, numbered}
use Rattle.sinks.specs.Pens.{MayFail, Adds}
use Rattle.listings.proofs.listing.add_functions.Given as goal

-- those so far are added
abbrev pub invariant-loop-number : goal.invariant-loop-number
invariant-loop-number g l =
    MayFail l.pen (g.S.Sink.written l.sink)
    × Adds (g.S.Sink.written l.fn.sink) l.fn.pen
    (g.S.Sink.written l.sink) l.pen
    (numbered (function_lines l.addresses) 0 (take l.number l.functions))
