-- What is known of a sink. A portion is what one call took; all portions joined, in the order of the calls, are the
-- bytes that the sink took.
use Rattle.std.specs.Prelude.{◌≡◌, ℕ, ◌<◌, ◌≤◌, Bool, true, List, [], ◌∷◌, ◌++◌, length, Option, Some, None}
use Rattle.std.specs.List.{concat}

-- the most bytes that are put by one call: those of a pen's buffer
abbrev pub buffer_bytes : ℕ
buffer_bytes = 512

pub record KnownPortions : Type 0 where
  pub portions : List (List ℕ)  -- that it took so far
  pub whole : Bool  -- whether it takes all bytes of each call that succeeds

-- `None` if they aren't known, as those of a real stream
abbrev pub Portions : Type 0
Portions = Option KnownPortions

pub record SinkState : Type 0 where
  pub portions : Portions
  pub failures : ℕ  -- how many calls failed

abbrev pub and_portions : Portions → List (List ℕ) → Portions
and_portions None more = None
and_portions (Some taken) more = Some (record taken { portions = taken.portions ++ more })

abbrev pub TakesWhole : Portions → Type 0
TakesWhole None = ⊥
TakesWhole (Some taken) = taken.whole ≡ true

-- The sink took exactly these bytes; as one portion, if it takes each put whole and they fit a pen's buffer.
pub record Takes (before after : Portions) (bytes : List ℕ) : Type 0 where
  pub portions : List (List ℕ)
  pub taken : after ≡ and_portions before portions
  pub joined : concat portions ≡ bytes
  pub one : TakesWhole before → 0 < length bytes → length bytes ≤ buffer_bytes →
      after ≡ and_portions before (bytes ∷ [])

-- all but those left at the end
pub record TakesAllBut (before after : Portions) (bytes left : List ℕ) : Type 0 where
  pub portions : List (List ℕ)
  pub taken : after ≡ and_portions before portions
  pub joined : concat portions ++ left ≡ bytes

-- a prefix of these bytes
abbrev pub TakesPrefix : Portions → Portions → List ℕ → Type 0
TakesPrefix before after bytes = (left : List ℕ) × TakesAllBut before after bytes left
