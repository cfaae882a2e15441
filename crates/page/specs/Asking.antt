-- Whether a film asks for more of its match, and what of it never changes.
use Rattle.std.specs.Prelude.{ℕ, ◌+◌, ◌==◌, ◌&&◌, not, nat_le, Bool, true, List, [], ◌∷◌, Option, Some, None}
use Rattle.page.specs.declared.films.SheetRows.{SheetRows}
use Rattle.page.specs.declared.stretches.Stretch.{Stretch}

-- a stretch, if there is one, ends after more updates than these
abbrev pub is_ahead : Option Stretch → (updates : ℕ) → Bool
is_ahead None updates = true
is_ahead (Some stretch) updates = not (nat_le (stretch.from + stretch.windows) updates)

-- and the sheet has refused nothing
abbrev pub film_asks : Option Stretch → (updates refused : ℕ) → Bool
film_asks stretch updates refused = is_ahead stretch updates && refused == 0

-- the numbers of a stretch, if there is one
abbrev pub stretch_numbers : Option Stretch → List ℕ
stretch_numbers None = []
stretch_numbers (Some stretch) = stretch.from ∷ stretch.windows ∷ []

-- what no row changes: the sheet, by the name of its reference, and the stretch
abbrev pub kept_by : SheetRows → List ℕ
kept_by rows = rows.sheet.ghost_name ∷ stretch_numbers rows.stretch
