-- Tables of what functions need, by number.
use Rattle.std.specs.Prelude.{ℕ, zero, suc, Bool, List, [], ◌∷◌, Option, None, replicate, set, slice_index_or}
use Rattle.trees.specs.Laws.{UnnamedFunction}
use Rattle.room.specs.declared.room.Room.{Room}
use Rattle.room.specs.Rooms.{words, both, above}
use Rattle.room.specs.Constructs.{body_need}
use Rattle.room.specs.Counting.{counted}

-- what a table says of a function
abbrev pub needs_in : List (Option Room) → ℕ → Option Room
needs_in table k = slice_index_or table k None

-- what a function needs by what those need that it calls
abbrev pub told_need : Bool → (ℕ → Option Room) → UnnamedFunction → Option Room
told_need short calls f = counted (above f.variables 1 (both (words 1) (body_need short calls f.body)))

-- the table with these functions, each at its number
abbrev pub entered : Bool → (ℕ → Option Room) → List UnnamedFunction → List (Option Room) → List (Option Room)
entered short calls [] table = table
entered short calls (f ∷ fs) table = entered short calls fs (set table f.number (told_need short calls f))

-- a table of no function
unfoldable pub blank : List (Option Room)
blank = replicate 256 None

-- the table of these functions, if at most n call one another
abbrev pub table_within : Bool → List UnnamedFunction → ℕ → List (Option Room)
table_within short fs zero = blank
table_within short fs (suc n) = entered short (needs_in (table_within short fs n)) fs blank
