-- The room that a function needs, and a file.
use Rattle.std.specs.Prelude.{ℕ, zero, suc, Bool, Option, None, length}
use Rattle.grammar.specs.Profile.{Profile}
use Rattle.grammar.specs.Tree.{File}
use Rattle.code.specs.Functions.{function_at}
use Rattle.room.specs.declared.room.Room.{Room}
use Rattle.room.specs.Rooms.{words, both, above, IsWithin}
use Rattle.room.specs.Constructs.{body_need}

-- A function with its variables and its frame, if at most n functions call one another inside of it, itself
-- counted. Its end pushes a word.
abbrev pub function_need : Bool → File → ℕ → ℕ → Option Room
function_need short file zero k = None
function_need short file (suc n) k =
    let f = function_at file k in
    above (length f.variables) 1 (both (words 1) (body_need short (function_need short file n) f.body))

-- What main needs, with its frame. If more functions call one another than there are, one comes back to itself: then no
-- room is enough.
abbrev pub need_of : Profile → File → Option Room
need_of p file = function_need p.short_circuit file (length file.order) file.main

-- the file needs no more room than the profile gives
abbrev pub HasRoom : Profile → File → Type 0
HasRoom p file = IsWithin p.words p.frames (need_of p file)
