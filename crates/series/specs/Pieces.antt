-- The output as pieces on two channels, and what two sinks took of it.
use Rattle.std.specs.Prelude.{◌≡◌, ◌⊎◌, ℕ, List, [], ◌∷◌}
use Rattle.sinks.specs.Portions.{Portions, Takes, TakesPrefix, SinkState}

-- where a piece is written
pub data Channel : Type 0 where
  Text : Channel
  Faults : Channel

-- a listing, a report or a line, which is written whole
pub record Piece : Type 0 where
  pub channel : Channel
  pub bytes : List ℕ

-- what the two sinks have taken
pub record Taken : Type 0 where
  pub text : Portions
  pub faults : Portions

abbrev pub on_both : Portions → Portions → Taken
on_both text faults = record { text = text; faults = faults }

abbrev pub taken_by_sinks : (text faults : SinkState) → Taken
taken_by_sinks text faults = on_both text.portions faults.portions

-- the channel's sink took these bytes, or a prefix of them, and the other one nothing
abbrev pub TakesOn : Channel → Taken → Taken → List ℕ → Type 0
TakesOn Text before after bytes = Takes before.text after.text bytes × (after.faults ≡ before.faults)
TakesOn Faults before after bytes = Takes before.faults after.faults bytes × (after.text ≡ before.text)

abbrev pub TakesPrefixOn : Channel → Taken → Taken → List ℕ → Type 0
TakesPrefixOn Text before after bytes = TakesPrefix before.text after.text bytes × (after.faults ≡ before.faults)
TakesPrefixOn Faults before after bytes = TakesPrefix before.faults after.faults bytes × (after.text ≡ before.text)

-- the sinks took these pieces, each whole, in this order; no write mixes two pieces
abbrev pub Writes : Taken → Taken → List Piece → Type 0
Writes before after [] = after ≡ before
Writes before after (piece ∷ pieces) = (between : Taken) × TakesOn piece.channel before between piece.bytes
    × Writes between after pieces

-- some of them whole, from the first on, and perhaps a prefix of the next
abbrev pub Begins : Taken → Taken → List Piece → Type 0
Begins before after [] = after ≡ before
Begins before after (piece ∷ pieces) =
    TakesPrefixOn piece.channel before after piece.bytes
    ⊎ ((between : Taken) × TakesOn piece.channel before between piece.bytes × Begins between after pieces)
