-- A language profile: what && and || evaluate, and how much a program may use.
use Rattle.std.specs.Prelude.{ℕ, Bool}

pub record Profile : Type 0 where
  pub instructions : ℕ  -- the most instructions of a file's code, with the last NOP
  pub words : ℕ  -- the words of a robot's stack
  pub frames : ℕ  -- the most frames that are open at once
  pub short_circuit : Bool  -- whether && and || leave out their right side, as in C
