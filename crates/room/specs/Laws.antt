-- Laws of room.
use Rattle.std.specs.Prelude.{◌≡◌, ℤ, List, Some}
use Rattle.grammar.specs.Profile.{Profile}
use Rattle.grammar.specs.Resolved.{IsResolved}
use Rattle.grammar.specs.Tree.{File}
use Rattle.code.specs.declared.cause.Cause.{Cause}
use Rattle.code.specs.declared.cause.Cause.TheVariants as cause
use Rattle.code.specs.Causes.{cause_next}
use Rattle.code.specs.Generation.{code_of}
use Rattle.code.specs.Machine.{reached, started_machine}
use Rattle.code.specs.Meaning.{want}
use Rattle.room.specs.Functions.{HasRoom}

-- If a file has the room that it needs, more room changes nothing of what it wants.
abbrev pub RoomIsEnough : Type 0
RoomIsEnough = (p q : Profile) (file : File) → p.short_circuit ≡ q.short_circuit → HasRoom p file → HasRoom q file
    → (trace : List ℤ) → want p file trace ≡ want q file trace

-- Along all replies: where the robot restarts, main returns.
abbrev pub NeverLacks : Profile → File → Type 0
NeverLacks p file = (trace : List ℤ) (c : Cause)
    → cause_next (code_of p file) (reached (code_of p file) (started_machine (code_of p file)) trace) ≡ Some c
    → c ≡ cause.Returned

-- A robot that has the room that it needs restarts only where main returns.
abbrev pub RestartsAtReturn : Type 0
RestartsAtReturn = (p : Profile) (file : File) → IsResolved file → HasRoom p file → NeverLacks p file
