-- The room that something needs, above the depth and the frames at which it begins; none if no room is enough.
use Rattle.std.specs.Prelude.{ℕ, ◌+◌, ◌≤◌, max, Option, Some, None}
use Rattle.room.specs.declared.room.Room.{Room}

abbrev pub room : ℕ → ℕ → Option Room
room words frames = Some (record { words = words; frames = frames })

-- words alone, in the frames that are open
abbrev pub words : ℕ → Option Room
words n = room n 0

-- what one and another need that begin at the same depth: of each the greater
abbrev pub both : Option Room → Option Room → Option Room
both None b = None
both (Some a) None = None
both (Some a) (Some b) = room (max a.words b.words) (max a.frames b.frames)

-- what is needed from below a number of words and frames
abbrev pub above : ℕ → ℕ → Option Room → Option Room
above words frames None = None
above words frames (Some r) = room (words + r.words) (frames + r.frames)

-- it is known, and within these words and frames
abbrev pub IsWithin : ℕ → ℕ → Option Room → Type 0
IsWithin words frames None = ⊥
IsWithin words frames (Some r) = (r.words ≤ words) × (r.frames ≤ frames)
