-- What a sink in memory keeps.
use Rattle.std.specs.Prelude.{ℕ, zero, suc, List, Option, Some, None, min, is_none, unwrap_or, ◌&&◌}
use Rattle.sinks.specs.Portions.{Portions, SinkState}

-- the portions that it took, the most bytes that a call takes and the room that is left, if they are limited, how many
-- calls succeed before one fails, and how often it failed
pub record MemorySink : Type 0 where
  pub portions : List (List ℕ)
  pub most : Option ℕ
  pub room : Option ℕ
  pub failing : Option ℕ
  pub failures : ℕ

-- how many of this many bytes the next call takes
abbrev pub size_of_next : MemorySink → ℕ → ℕ
size_of_next r len = elim r.failing [ None ↦ fitting | Some calls ↦ elim calls [ zero ↦ 0 | suc _ ↦ fitting ] ]
  where
    fitting : ℕ
    fitting = min (min len (unwrap_or r.most len)) (unwrap_or r.room len)

-- what it took; it takes each put whole unless it was limited
abbrev pub contents_of : MemorySink → Portions
contents_of r = Some (record { portions = r.portions; whole = is_none r.most && is_none r.room })

abbrev pub written_of : MemorySink → SinkState
written_of r = record { portions = contents_of r; failures = r.failures }

-- how many calls succeed before one fails, after one more call
abbrev pub failing_then : Option ℕ → Option ℕ
failing_then None = None
failing_then (Some zero) = None
failing_then (Some (suc calls)) = Some calls
