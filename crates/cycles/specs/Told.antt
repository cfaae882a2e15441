-- A span as it is reported: in numbers up to 4,294,967,295. A greater least is reported as this number, and a greater
-- most as no bound.
use Rattle.std.specs.Prelude.{ℕ, min, nat_le, Option, Some, None, if◌then◌else◌}
use Rattle.cycles.specs.declared.spans.Span.{Span}
use Rattle.cycles.specs.declared.spans.Ends.{Ends}

-- the greatest number that is reported
abbrev pub most_told : ℕ
most_told = 4294967295

abbrev pub told_most : Option ℕ → Option ℕ
told_most None = None
told_most (Some most) = if nat_le most most_told then Some most else None

abbrev pub told : Span → Span
told s = record { least = min s.least most_told; most = told_most s.most }

abbrev pub told_end : Option Span → Option Span
told_end None = None
told_end (Some s) = Some (told s)

abbrev pub told_ends : Ends → Ends
told_ends ends = record { through = told_end ends.through; returns = told_end ends.returns }
