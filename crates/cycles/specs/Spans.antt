-- Spans: a least number, and a most if anything bounds it.
use Rattle.std.specs.Prelude.{ℕ, zero, ◌+◌, ◌≤◌, min, max, Option, Some, None, IfSome}
use Rattle.cycles.specs.declared.spans.Span.{Span}

-- a number is within a span
pub record IsWithin (s : Span) (n : ℕ) : Type 0 where
  pub least : s.least ≤ n
  pub most : IfSome s.most (λ most. n ≤ most)

-- and within that of an end; no number is, if the end is never reached
abbrev pub MayTake : Option Span → ℕ → Type 0
MayTake None n = ⊥
MayTake (Some s) n = IsWithin s n

-- exactly this number
abbrev pub exactly : ℕ → Span
exactly n = record { least = n; most = Some n }

-- any number
abbrev pub anything : Span
anything = record { least = 0; most = None }

abbrev pub most_of_both : Option ℕ → Option ℕ → Option ℕ
most_of_both (Some m) (Some n) = Some (m + n)
most_of_both m n = None

abbrev pub most_of_either : Option ℕ → Option ℕ → Option ℕ
most_of_either (Some m) (Some n) = Some (max m n)
most_of_either m n = None

-- one after the other
infixr 50 ◌⊕◌
abbrev pub ◌⊕◌ : Span → Span → Span
s ⊕ t = record { least = s.least + t.least; most = most_of_both s.most t.most }

-- one or the other
abbrev pub either : Span → Span → Span
either s t = record { least = min s.least t.least; most = most_of_either s.most t.most }

-- however often there is nothing, there is nothing
abbrev pub most_of_any : Option ℕ → Option ℕ
most_of_any (Some zero) = Some 0
most_of_any most = None
