-- One beginning of the output after another.
use Rattle.std.proofs.Common.{inl, inr, ℕ, List, [], ◌∷◌, ◌++◌, refl, sym, subst}
use Rattle.series.specs.Pieces.{Channel, Text, Faults, Piece, Taken, TakesPrefixOn, Writes, Begins}
use Rattle.sinks.proofs.PortionsLemmas.{nothing_taken}

-- pieces, and then more pieces
pub writes_then : (before now after : Taken) (pieces more : List Piece) → Writes before now pieces →
    Writes now after more
    → Writes before after (pieces ++ more)
writes_then before now after [] more first second =
    let P : Taken → Type 0 = λ t. Writes t after more in subst P first second
writes_then before now after (piece ∷ pieces) more (between, takes, rest) second =
    (between, takes, writes_then between now after pieces more rest second)

-- pieces, and between them what was taken of the first
pub writes_split : (before after : Taken) (pieces more : List Piece) → Writes before after (pieces ++ more)
    → (between : Taken) × Writes before between pieces × Writes between after more
writes_split before after [] more writes = (before, refl, writes)
writes_split before after (piece ∷ pieces) more (first, takes, rest) =
    let (between, front, back) = writes_split first after pieces more rest in
    (between, (first, takes, front), back)

-- at first the sinks took a beginning
pub begins_here : (now : Taken) (pieces : List Piece) → Begins now now pieces
begins_here now [] = refl
begins_here now (piece ∷ pieces) = inl (front piece.channel piece.bytes)
  where
    front : (channel : Channel) (bytes : List ℕ) → TakesPrefixOn channel now now bytes
    front Text bytes = ((bytes, nothing_taken now.text bytes), refl)
    front Faults bytes = ((bytes, nothing_taken now.faults bytes), refl)

-- pieces, and then a beginning of more
pub begins_then : (before now after : Taken) (pieces more : List Piece) → Writes before now pieces →
    Begins now after more
    → Begins before after (pieces ++ more)
begins_then before now after [] more first second =
    let P : Taken → Type 0 = λ t. Begins t after more in subst P first second
begins_then before now after (piece ∷ pieces) more (between, takes, rest) second =
    inr (between, takes, begins_then between now after pieces more rest second)

-- a beginning of the pieces is one of more pieces
pub begins_more : (before after : Taken) (pieces more : List Piece) → Begins before after pieces →
    Begins before after (pieces ++ more)
begins_more before after [] more first =
    let P : Taken → Type 0 = λ t. Begins before t more in subst P (sym first) (begins_here before more)
begins_more before after (piece ∷ pieces) more (inl front) = inl front
begins_more before after (piece ∷ pieces) more (inr (between, takes, rest)) =
    inr (between, takes, begins_more between after pieces more rest)
