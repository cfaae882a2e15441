use Rattle.std.proofs.Common.{ℕ, Bool, ap₂}
use Rattle.std.specs.Prelude.{◌&&◌}
use Rattle.tools.specs.declared.spans.Span.{Span}
use Rattle.trace.specs.Spans.{is_in_span}
use Rattle.trace.proofs.rows.RowsFilmRows.tell_before.Goals as goal

pub returns-clause-shown : goal.returns-clause-shown
returns-clause-shown c =
    ap₂ {C = ℕ → ℕ → Bool} (λ (film : Bool) (span : Span) (cycle robot : ℕ). film && is_in_span span cycle robot)
    c.note.ensures.film
    c.note.ensures.span
