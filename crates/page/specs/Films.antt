-- What a film leaves on its sheets.
use Rattle.std.specs.Prelude.{◌≡◌, ◌+◌, ◌*◌, ◌<◌, ◌≤◌, ℕ, List, Option, Some, None, map}
use Rattle.std.specs.List.{concat}
use Rattle.battles.specs.Battle.{battle}
use Rattle.battles.specs.Pairing.{robots_of}
use Rattle.grammar.specs.Tree.{File}
use Rattle.series.specs.Compiling.{compiling, files_of}
use Rattle.series.specs.Pieces.{Faults}
use Rattle.series.specs.declared.run_results.Status.{Status}
use Rattle.series.specs.declared.run_results.Status.TheVariants as status
use Rattle.grammar.specs.ProfileNumbers.{profile_numbered}
use Rattle.settings.specs.declared.settings.Mode.TheVariants.{Matches}
use Rattle.page.specs.declared.endings.Ending.{Ending}
use Rattle.page.specs.declared.endings.Ending.TheVariants.{Done, Faulty, Refused, Full, GoesOn}
use Rattle.page.specs.declared.orders.Order.{Order}
use Rattle.page.specs.declared.robots.RobotFile.{RobotFile}
use Rattle.page.specs.declared.sheets.Sheet.{Sheet}
use Rattle.page.specs.declared.stretches.Stretch.{Stretch}
use Rattle.page.specs.declared.subjects.Subject.{Subject}
use Rattle.page.specs.declared.subjects.Subject.TheVariants.{Film, Moment, Places, Run}
use Rattle.page.specs.Robots.{source_of}
use Rattle.page.specs.Running.{IsAccepted, OneIsFull, bytes_on, output_of}
use Rattle.page.specs.Sheets.{refused, told}

-- the diagnostics of an order's faulty robots
abbrev pub diagnostics : Order → List RobotFile → List ℕ
diagnostics order robots =
    bytes_on Faults (compiling Matches (profile_numbered order.profile) (map source_of robots))

-- the stretch of a subject: only a film has one
abbrev pub stretch_in : Subject → Option Stretch
stretch_in (Film stretch skipped) = stretch
stretch_in (Moment target) = None
stretch_in (Run target) = None
stretch_in Places = None

-- the last cycle of a stretch
abbrev pub last_of : Stretch → ℕ
last_of stretch = 15 * (stretch.from + stretch.windows)

-- how what is shown of a match may end: only one of which a stretch is shown goes on
abbrev pub MayEnd : Option Stretch → Ending → Type 0
MayEnd stretch Faulty = ⊥
MayEnd stretch Refused = ⊥
MayEnd None GoesOn = ⊥
MayEnd (Some stretch) GoesOn = Unit {0}
MayEnd stretch Done = Unit {0}
MayEnd stretch Full = Unit {0}

-- What is shown of a stretch of a match that has n cycles: the match goes on exactly if it has more than the
-- stretch. Of a whole match its end is shown. Nothing is said if there was no room.
abbrev pub Shows : Option Stretch → ℕ → Ending → Type 0
Shows (Some stretch) cycles Done = cycles ≤ last_of stretch
Shows (Some stretch) cycles GoesOn = last_of stretch < cycles
Shows stretch cycles ending = MayEnd stretch ending

-- how many cycles the first match has that an order asks for of these files
abbrev pub cycles_of : Order → List File → ℕ
cycles_of order files =
    (battle (robots_of (profile_numbered order.profile) files) order.seed order.first order.limit).cycles

-- it is true of the cycles of the match of the robots' files
abbrev pub OfMatch : Order → List RobotFile → (ℕ → Type 0) → Type 0
OfMatch order robots P = (files : List File)
    → files_of (profile_numbered order.profile) (map source_of robots) ≡ Some files → P (cycles_of order files)

-- the sources were compiled as a run does, with this status, and the sheet of faults has the diagnostics that it writes
pub record HasCompiled (order : Order) (robots : List RobotFile) (end : Status) (faults : Sheet) : Type 0 where
  pub accepted : IsAccepted order robots
  pub status : end ≡ (output_of order robots).status
  pub lines : concat (told faults) ≡ diagnostics order robots

-- of good sources all was taken that a subject of this stretch shows of their match
pub record HasShown (order : Order) (robots : List RobotFile) (stretch : Option Stretch) (ending : Ending)
    (film faults : Sheet) : Type 0 where
  pub compiled : HasCompiled order robots status.Done faults
  pub may_end : MayEnd stretch ending
  pub whole : refused film ≡ 0
  pub shows : OfMatch order robots (λ cycles. Shows stretch cycles ending)

-- A film of an order's robots: nothing is shown exactly if a run of them finds a faulty source. Else its sheet took all
-- of it. Whether the match goes on is said of the match that a run plays.
abbrev pub FilmsRobots : Order → List RobotFile → Option Stretch → Ending → Sheet → Sheet → Type 0
FilmsRobots order robots stretch Done film faults = HasShown order robots stretch Done film faults
FilmsRobots order robots stretch GoesOn film faults = HasShown order robots stretch GoesOn film faults
FilmsRobots order robots stretch Faulty film faults = HasCompiled order robots status.Faulty faults
FilmsRobots order robots stretch Full film faults = IsAccepted order robots × OneIsFull film faults
FilmsRobots order robots stretch Refused film faults = IsAccepted order robots → ⊥
