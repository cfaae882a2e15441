-- What is said of the source of an order's first robot.
use Rattle.std.specs.Prelude.{ℕ, ◌≡◌, ◌⊎◌, ◌++◌, List, Some, Err, slice_get}
use Rattle.derivations.specs.Compiling.{Compiles}
use Rattle.derivations.specs.TokenCounts.{HasMoreTokens}
use Rattle.explanations.specs.Faults.{IsOn}
use Rattle.grammar.specs.Compiled.{compiled}
use Rattle.grammar.specs.Profile.{Profile}
use Rattle.grammar.specs.ProfileNumbers.{profile_numbered}
use Rattle.grammar.specs.declared.diagnostics.Diagnostic.{Diagnostic}
use Rattle.page.specs.declared.endings.Ending.{Ending}
use Rattle.page.specs.declared.endings.Ending.TheVariants.{Done, Faulty, Refused, Full, GoesOn}
use Rattle.page.specs.declared.orders.Order.{Order}
use Rattle.page.specs.declared.robots.RobotFile.{RobotFile}
use Rattle.page.specs.Robots.{source_bytes}
use Rattle.page.specs.Running.{IsAccepted}
use Rattle.page.specs.Sheets.{IsFull, text_on}
use Rattle.page.specs.declared.sheets.Sheet.{Sheet}

-- a text ends with a note on a diagnostic
pub record EndsOn (diagnostic : Diagnostic) (text : List ℕ) : Type 0 where
  pub before : List ℕ
  pub note : List ℕ
  pub is : text ≡ before ++ note
  pub on : IsOn diagnostic note

-- a source has a fault, and what is on the sheet ends with a note on it, unless the sheet is full
pub record IsFaulty (profile : Profile) (bytes : List ℕ) (sheet : Sheet) : Type 0 where
  pub diagnostic : Diagnostic
  pub is : compiled profile bytes ≡ Err diagnostic
  pub told : IsFull sheet ⊎ EndsOn diagnostic (text_on sheet)

-- there was no room: the sheet is full, or the source has more tokens than are found without memory
abbrev pub LacksRoom : List ℕ → Sheet → Type 0
LacksRoom bytes sheet = IsFull sheet ⊎ HasMoreTokens bytes

-- what an explanation of this source says that ends so, and leaves this sheet
abbrev pub Explains : Profile → List ℕ → Ending → Sheet → Type 0
Explains profile bytes Done sheet = Compiles profile bytes
Explains profile bytes Faulty sheet = IsFaulty profile bytes sheet
Explains profile bytes Full sheet = LacksRoom bytes sheet
Explains profile bytes Refused sheet = ⊥
Explains profile bytes GoesOn sheet = ⊥

-- it is said of the first robot's source, in the order's profile; a full sheet is told by its ending
pub record ExplainsFirst (order : Order) (robots : List RobotFile) (ending : Ending) (sheet : Sheet) : Type 0 where
  pub accepted : IsAccepted order robots
  pub explains : (robot : RobotFile) → slice_get robots 0 ≡ Some robot
      → Explains (profile_numbered order.profile) (source_bytes robot) ending sheet
  pub room : ending ≡ Full ⊎ (IsFull sheet → ⊥)

-- an explanation of an order's robots: what is refused was not to be accepted
abbrev pub ExplainsRobots : Order → List RobotFile → Ending → Sheet → Type 0
ExplainsRobots order robots Done sheet = ExplainsFirst order robots Done sheet
ExplainsRobots order robots Faulty sheet = ExplainsFirst order robots Faulty sheet
ExplainsRobots order robots Full sheet = ExplainsFirst order robots Full sheet
ExplainsRobots order robots Refused sheet = IsAccepted order robots → ⊥
ExplainsRobots order robots GoesOn sheet = ⊥
