-- Room as it is counted: the numbers stop at a greatest one, far beyond any profile's.
use Rattle.std.specs.Prelude.{◌≡◌, ℕ, min, Option, Some, None}
use Rattle.room.specs.declared.room.Room.{Room}
use Rattle.room.specs.Rooms.{room}

abbrev pub most_counted : ℕ
most_counted = 65535

abbrev pub counted : Option Room → Option Room
counted None = None
counted (Some r) = room (min r.words most_counted) (min r.frames most_counted)

-- they are counted the same
abbrev pub CountsAs : Option Room → Option Room → Type 0
CountsAs a b = counted a ≡ counted b
