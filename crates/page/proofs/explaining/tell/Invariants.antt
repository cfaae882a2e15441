use Rattle.std.proofs.Common.{◌≡◌, ◌++◌, ◌+◌, ◌≤◌, ℕ, List, length}
use Rattle.page.specs.Sheets.{Adds}
use Rattle.page.proofs.explaining.tell.Given as goal

-- what was told so far, and what is left
abbrev pub invariant-loop-piece : goal.invariant-loop-piece
invariant-loop-piece l =
    (length l.rest + l._piece ≤ length l.text)
    × ((done : List ℕ) × (done ++ l.rest ≡ l.text) × Adds l.initial.sheet l.sheet done)
