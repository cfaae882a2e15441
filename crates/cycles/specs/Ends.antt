-- What statements take up to each of their ends.
use Rattle.std.specs.Prelude.{Option, Some, None}
use Rattle.code.specs.Meaning.{Completion, Through, Returns}
use Rattle.cycles.specs.declared.spans.Span.{Span}
use Rattle.cycles.specs.declared.spans.Ends.{Ends}
use Rattle.cycles.specs.Spans.{◌⊕◌, either, exactly, most_of_any}

-- a span, and then an end that may never be reached
abbrev pub before : Span → Option Span → Option Span
before s None = None
before s (Some t) = Some (s ⊕ t)

-- an end, and if it is reached, another
abbrev pub behind : Option Span → Option Span → Option Span
behind None end = None
behind (Some s) end = before s end

-- one end or the other
abbrev pub one_of : Option Span → Option Span → Option Span
one_of None end = end
one_of (Some s) None = Some s
one_of (Some s) (Some t) = Some (either s t)

-- an end that is reached any number of times; not once, if it is never reached
abbrev pub repeated : Option Span → Span
repeated None = exactly 0
repeated (Some s) = record { least = 0; most = most_of_any s.most }

-- the end of this flow
abbrev pub end_of : Ends → Completion → Option Span
end_of ends Through = ends.through
end_of ends (Returns x) = ends.returns

-- no statements are passed through at once
abbrev pub passed : Ends
passed = record { through = Some (exactly 0); returns = None }

-- a span, and then these ends
abbrev pub after : Span → Ends → Ends
after s ends = record { through = before s ends.through; returns = before s ends.returns }

-- some statements, and if they are passed through, the next ones
abbrev pub followed : Ends → Ends → Ends
followed ends next = record {
  through = behind ends.through next.through;
  returns = one_of ends.returns (behind ends.through next.returns);
}

-- one branch or the other
abbrev pub one_branch : Ends → Ends → Ends
one_branch first second = record {
  through = one_of first.through second.through;
  returns = one_of first.returns second.returns;
}
