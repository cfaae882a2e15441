-- A pilot: a program and the state of a machine that runs it. And what a live robot's turn does.
use Rattle.std.specs.Prelude.{◌≡◌, ℕ, ℤ, pos, List, [], ◌∷◌, ◌++◌, length}
use Rattle.arena.specs.Answer.{answer}
use Rattle.arena.specs.Field.{Field}
use Rattle.arena.specs.Arena.{Arena}
use Rattle.arena.specs.Representing.{RepresentsField}
use Rattle.code.specs.declared.want.Want.{Want}
use Rattle.code.specs.declared.want.Want.TheVariants.{Ask, Quiet, Restart}
use Rattle.code.specs.Generation.{Program}
use Rattle.code.specs.Machine.{Machine}
use Rattle.code.specs.ReachedMachines.{IsReached}

pub record Pilot : Type 0 where
  pub code : Program
  pub state : Machine

-- a turn by what the robot wants after these replies: its machine goes on, begins again, or gets the field's answer
abbrev pub TakesTurn : Program → ℕ → List ℤ → Want → Machine → (before after : Arena) → Type 0
TakesTurn code robot trace Quiet machine before after =
    IsReached machine code (trace ++ pos 0 ∷ []) × (after ≡ before)
TakesTurn code robot trace Restart machine before after = IsReached machine code [] × (after ≡ before)
TakesTurn code robot trace (Ask intrinsic arguments) machine before after =
    (field : Field) → RepresentsField before field
    → IsReached machine code (trace ++ (answer field robot intrinsic arguments).0 ∷ [])
    × RepresentsField after (answer field robot intrinsic arguments).1

-- a field with as many robots, after as many updates
pub record IsOfSameUpdate (before after : Arena) : Type 0 where
  pub manned : length after.robots ≡ length before.robots
  pub updates : after.updates ≡ before.updates
