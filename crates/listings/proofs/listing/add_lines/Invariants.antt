use Rattle.std.proofs.Common.{take}
use Rattle.listings.specs.Listing.{instr_line, numbered}
use Rattle.sinks.specs.Pens.{MayFail, Adds}
use Rattle.listings.proofs.listing.add_lines.Given as goal

-- those so far are added
abbrev pub invariant-loop-at : goal.invariant-loop-at
invariant-loop-at g l =
    MayFail l.pen (g.S.Sink.written l.sink)
    × Adds (g.S.Sink.written l.fn.sink) l.fn.pen
    (g.S.Sink.written l.sink) l.pen
    (numbered instr_line 0 (take l.at l.instrs))
