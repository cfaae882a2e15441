-- What a film says of its robots' sources.
use Rattle.std.proofs.Common.{◌≡◌, List, Option, Some, None, inl, map, refl}
use Rattle.grammar.specs.Laws.{CompiledIsResolved}
use Rattle.grammar.specs.Tree.{File}
use Rattle.grammar.specs.ProfileNumbers.{profile_numbered}
use Rattle.code.specs.Codes.{AreProgramsOf}
use Rattle.code.specs.Generation.{Program}
use Rattle.settings.specs.declared.settings.Mode.TheVariants.{Matches}
use Rattle.series.proofs.OutputLemmas.{kept_codes}
use Rattle.series.specs.Compiling.{compile_status, compiling, files_of}
use Rattle.series.specs.CompiledFiles.{programs_of}
use Rattle.series.specs.Pieces.{Writes}
use Rattle.series.specs.declared.run_results.Status.{Status}
use Rattle.series.specs.declared.run_results.Status.TheVariants as status
use Rattle.page.specs.declared.endings.Ending.{Ending}
use Rattle.page.specs.declared.endings.Ending.TheVariants.{Done, Faulty, Refused, Full, GoesOn}
use Rattle.page.specs.declared.orders.Order.{Order}
use Rattle.page.specs.declared.robots.RobotFile.{RobotFile}
use Rattle.page.specs.declared.sheets.Sheet.{Sheet}
use Rattle.page.specs.declared.stretches.Stretch.{Stretch}
use Rattle.page.specs.Films.{FilmsRobots, HasCompiled, MayEnd, OfMatch, Shows}
use Rattle.page.specs.Robots.{source_of}
use Rattle.page.specs.Running.{IsAccepted, blank, taken_by}
use Rattle.page.specs.Sheets.{IsFull, refused}
use Rattle.page.proofs.RunningLemmas.{held}

-- the robots of an order were compiled on blank sheets, with this status
abbrev pub CompilesRobots : Order → List RobotFile → Status → Sheet → Sheet → Type 0
CompilesRobots order robots end film faults =
    Writes blank (taken_by film faults) (compiling Matches (profile_numbered order.profile) (map source_of robots))
    × (end ≡ compile_status (files_of (profile_numbered order.profile) (map source_of robots)))

-- and their diagnostics are on the sheet of faults
pub has_compiled : (order : Order) (robots : List RobotFile) (end : Status) (film faults : Sheet)
    → IsAccepted order robots → CompilesRobots order robots end film faults → HasCompiled order robots end faults
has_compiled order robots end film faults accepted (writes, is) =
    let pieces = compiling Matches (profile_numbered order.profile) (map source_of robots) in record {
      accepted = accepted;
      status = is;
      lines = (held (record { pieces = pieces; status = end }) film faults writes).lines;
    }

-- the programs of good sources are the codes of their files
pub codes_good : CompiledIsResolved → (order : Order) (robots : List RobotFile) (codes : List Program)
    (files : List File) → Some codes ≡ programs_of (profile_numbered order.profile) (map source_of robots)
    → files_of (profile_numbered order.profile) (map source_of robots) ≡ Some files
    → AreProgramsOf codes (profile_numbered order.profile) files
codes_good law order robots codes files given good =
    let found = kept_codes law (profile_numbered order.profile) (map source_of robots) codes given in
    let same : found.0 ≡ files = cc (found.1, good) in
    rw same at found.2

-- what was shown of good sources
pub has_shown : (order : Order) (robots : List RobotFile) (stretch : Option Stretch) (ending : Ending)
    (film faults : Sheet) → HasCompiled order robots status.Done faults → MayEnd stretch ending
    → (ending ≡ Full → IsFull film) → refused film ≡ 0
    → OfMatch order robots (λ cycles. Shows stretch cycles ending)
    → FilmsRobots order robots stretch ending film faults
has_shown order robots stretch Done film faults compiled may_end full room shows =
    record { compiled = compiled; may_end = may_end; whole = room; shows = shows }
has_shown order robots stretch GoesOn film faults compiled may_end full room shows =
    record { compiled = compiled; may_end = may_end; whole = room; shows = shows }
has_shown order robots stretch Full film faults compiled may_end full room shows =
    (compiled.accepted, inl (full refl))
has_shown order robots None Faulty film faults compiled may_end full room shows = absurd may_end
has_shown order robots (Some stretch) Faulty film faults compiled may_end full room shows = absurd may_end
has_shown order robots None Refused film faults compiled may_end full room shows = absurd may_end
has_shown order robots (Some stretch) Refused film faults compiled may_end full room shows = absurd may_end
