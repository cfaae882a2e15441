-- What a run over robots leaves on its sheets.
use Rattle.std.specs.Prelude.{◌≡◌, ◌⊎◌, ◌≤◌, ℕ, All, List, [], Some, Result, Ok, Err, IsUtf8, false, length, map}
use Rattle.std.specs.List.{concat, flat_map}
use Rattle.series.specs.Output.{Output, output}
use Rattle.series.specs.Pieces.{Begins, Channel, Piece, Taken, Text, Faults, Writes, on_both}
use Rattle.series.specs.declared.run_results.RunFault.{RunFault}
use Rattle.series.specs.declared.run_results.Status.{Status}
use Rattle.series.specs.declared.run_results.Status.TheVariants as status
use Rattle.sinks.specs.Portions.{Portions}
use Rattle.page.specs.declared.endings.Ending.{Ending}
use Rattle.page.specs.declared.endings.Ending.TheVariants as ending
use Rattle.page.specs.declared.orders.Order.{Order}
use Rattle.page.specs.declared.robots.RobotFile.{RobotFile}
use Rattle.page.specs.declared.sheets.Sheet.{Sheet}
use Rattle.settings.specs.SettingsLimits.{most_files}
use Rattle.page.specs.Orders.{AreWithin, setup_of}
use Rattle.page.specs.Robots.{name_bytes, source_of}
use Rattle.page.specs.Sheets.{IsFull, contents_of, told}

-- a blank sheet
abbrev pub nothing : Portions
nothing = Some (record { portions = []; whole = false })

-- two blank sheets
abbrev pub blank : Taken
blank = record { text = nothing; faults = nothing }

-- one to four robots, whose names are texts
pub record AreNamed (robots : List RobotFile) : Type 0 where
  pub some : 1 ≤ length robots
  pub most : length robots ≤ most_files
  pub names : All (λ robot. IsUtf8 (name_bytes robot)) robots

-- such robots, and an order whose numbers are within their limits
pub record IsAccepted (order : Order) (robots : List RobotFile) : Type 0 where
  pub within : AreWithin order
  pub named : AreNamed robots

-- the output of what the order asks for of the robots
abbrev pub output_of : Order → List RobotFile → Output
output_of order robots = output (setup_of order (map name_bytes robots)) (map source_of robots)

-- the bytes of a piece, if it is written on this channel
abbrev pub part_on : Channel → Channel → List ℕ → List ℕ
part_on Text Text bytes = bytes
part_on Text Faults bytes = []
part_on Faults Text bytes = []
part_on Faults Faults bytes = bytes

-- all bytes that pieces put on a channel
abbrev pub bytes_on : Channel → List Piece → List ℕ
bytes_on channel pieces = flat_map (λ piece. part_on channel piece.channel piece.bytes) pieces

-- the sheets hold an output: its texts the one, and its faults the other
pub record Holds (out : Output) (text faults : Sheet) : Type 0 where
  pub texts : concat (told text) ≡ bytes_on Text out.pieces
  pub lines : concat (told faults) ≡ bytes_on Faults out.pieces

-- one of two sheets had no room for all that was written
abbrev pub OneIsFull : Sheet → Sheet → Type 0
OneIsFull text faults = IsFull text ⊎ IsFull faults

-- what two sheets took that were blank
abbrev pub taken_by : Sheet → Sheet → Taken
taken_by text faults = on_both (contents_of text) (contents_of faults)

-- what the order asks for of the robots wrote its output on two sheets, and ended with this status
pub record HasRun (order : Order) (robots : List RobotFile) (end : Status) (text faults : Sheet) : Type 0 where
  pub accepted : IsAccepted order robots
  pub status : end ≡ (output_of order robots).status
  pub writes : Writes blank (taken_by text faults) (output_of order robots).pieces
  pub holds : Holds (output_of order robots) text faults

-- a sheet had no room for all of it: the sheets have a beginning
pub record WasCut (order : Order) (robots : List RobotFile) (text faults : Sheet) : Type 0 where
  pub accepted : IsAccepted order robots
  pub begins : Begins blank (taken_by text faults) (output_of order robots).pieces
  pub full : OneIsFull text faults

-- how a call ends whose run ended so
abbrev pub ending_of : Result Status RunFault → Ending
ending_of (Ok status.Done) = ending.Done
ending_of (Ok status.Faulty) = ending.Faulty
ending_of (Err stopped) = ending.Full

-- what the sheets hold after a run that ends so: what is refused was not to be accepted
abbrev pub RunsRobots : Order → List RobotFile → Ending → Sheet → Sheet → Type 0
RunsRobots order robots ending.Done text faults = HasRun order robots status.Done text faults
RunsRobots order robots ending.Faulty text faults = HasRun order robots status.Faulty text faults
RunsRobots order robots ending.Full text faults = WasCut order robots text faults
RunsRobots order robots ending.Refused text faults = IsAccepted order robots → ⊥
RunsRobots order robots ending.GoesOn text faults = ⊥
