-- The text of a sheet.
use Rattle.std.specs.Prelude.{◌≡◌, ◌⊎◌, ◌++◌, ℕ, ◌<◌, List, Some, false, map, take, if◌then◌else◌, nat_le}
use Rattle.std.specs.List.{concat}
use Rattle.sinks.specs.Portions.{Portions, SinkState}
use Rattle.page.specs.declared.sheets.SheetBlock.{SheetBlock}
use Rattle.page.specs.declared.sheets.Sheet.{Sheet}

-- the bytes of a frame
abbrev pub bytes_of : SheetBlock → List ℕ
bytes_of frame = take frame.size frame.bytes

-- the text, frame by frame
abbrev pub told : Sheet → List (List ℕ)
told sheet = map bytes_of (take sheet.used sheet.frames)

-- and as one text
abbrev pub text_on : Sheet → List ℕ
text_on sheet = concat (told sheet)

-- what a sheet took as a device; it need not take a put whole
abbrev pub contents_of : Sheet → Portions
contents_of sheet = Some (record { portions = told sheet; whole = false })

-- how many frames a sheet has
abbrev pub most_frames : ℕ
most_frames = 32768

-- how many writes it refused: a sheet that has a free frame refuses none
abbrev pub refused : Sheet → ℕ
refused sheet = if nat_le most_frames sheet.used then sheet.failures else 0

-- all its frames are used, and it refused a write
abbrev pub IsFull : Sheet → Type 0
IsFull sheet = 0 < refused sheet

-- a text was added to a sheet: it stands behind what stood there, unless the sheet is full, and a full one stays so
pub record Adds (before after : Sheet) (text : List ℕ) : Type 0 where
  pub full : IsFull before → IsFull after
  pub told : IsFull after ⊎ (text_on after ≡ text_on before ++ text)

-- some text was
pub record AddsSome (before after : Sheet) : Type 0 where
  pub text : List ℕ
  pub adds : Adds before after text

abbrev pub written_of : Sheet → SinkState
written_of sheet = record { portions = contents_of sheet; failures = refused sheet }
