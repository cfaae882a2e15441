-- What a call of the scoped cursor says of the derivation, by its result.
use Rattle.std.specs.Prelude.{ℕ, List, [], Result, Ok, Err}
use Rattle.grammar.specs.declared.diagnostics.ParseFault.{ParseFault}
use Rattle.grammar.specs.Derivation.{PartialTree}
use Rattle.grammar.specs.Grammar.{Item}
use Rattle.parser.specs.ScopedCursors.{ScopedCursor, taken_at}
use Rattle.parser.specs.Segment.{Derives, FailsAt, GoesPast, Refused, StopsAt}

-- One token was consumed. Or the token after it is a lexical error, or the device failed.
abbrev pub Consumes : {A : Type 0} → Result A ParseFault → ScopedCursor → ScopedCursor → Type 0
Consumes (Ok x) old new = GoesPast old.position new.position
Consumes (Err fault) old new = Refused (StopsAt old.position) ⊥ (taken_at new.position) fault

-- These items were matched, which made these trees. Or the derivation stops within them, as the refusal says.
-- No memory is asked for.
abbrev pub Matches : {A : Type 0} → Result A ParseFault → List Item → (A → List PartialTree) → ScopedCursor →
    ScopedCursor →
    Type 0
Matches (Ok x) items trees old new = (depth : ℕ) → Derives depth items [] [] (trees x) old.position new.position
Matches (Err fault) items trees old new =
    Refused (λ stop. (depth : ℕ) → FailsAt depth items [] old.position stop) ⊥ (taken_at new.position) fault
