-- What a pen has written of a piece.
use Rattle.std.specs.Prelude.{◌≡◌, ℕ, ◌+◌, ◌-◌, ◌^◌, ◌<◌, ◌≤◌, Bool, true, false, List, [], ◌++◌, length}
use Rattle.sinks.specs.Portions.{SinkState, TakesAllBut, TakesPrefix, buffer_bytes}

-- a pen: the bytes in its buffer, and whether a put has failed
pub record Pen : Type 0 where
  pub buffer : List ℕ
  pub failed : Bool

-- a pen at the beginning of a piece
abbrev pub new_pen : Pen
new_pen = record { buffer = []; failed = false }

-- if no put has failed, a failure of the sink can be counted
abbrev pub MayFail : Pen → SinkState → Type 0
MayFail pen sink = pen.failed ≡ false → sink.failures < 2 ^ 64 - 1

-- Since the pen began, of a sink that was `before` then and is `now`:
-- while no put has failed, the sink took the text but for what is in the buffer;
-- once one has failed, it took a prefix of the text.
pub record PutsSoFar (before now : SinkState) (pen : Pen) (text : List ℕ) : Type 0 where
  pub going : pen.failed ≡ false → TakesAllBut before.portions now.portions text pen.buffer
  pub never_failed : pen.failed ≡ false → now.failures ≡ before.failures
  pub stopped : pen.failed ≡ true → TakesPrefix before.portions now.portions text
  pub counted : pen.failed ≡ true → now.failures ≡ before.failures + 1

-- the whole text is in the buffer: nothing was put
pub record IsBuffered (before now : SinkState) (pen : Pen) (text : List ℕ) : Type 0 where
  pub going : pen.failed ≡ false
  pub buffer : pen.buffer ≡ text
  pub nothing : now.portions ≡ before.portions

-- the same of a pen between two fragments: its buffer keeps a text that fits it
pub record WritesSoFar (before now : SinkState) (pen : Pen) (text : List ℕ) : Type 0 where
  pub puts : PutsSoFar before now pen text
  pub kept : length text ≤ buffer_bytes → IsBuffered before now pen text

-- whatever a pen had written of a piece before, it has then written that and these bytes
abbrev pub Adds : SinkState → Pen → SinkState → Pen → List ℕ → Type 0
Adds old pen new later bytes = (before : SinkState) (text : List ℕ)
    → WritesSoFar before old pen text → WritesSoFar before new later (text ++ bytes)
