-- What an explanation says of its robots.
use Rattle.std.proofs.Common.{◌≡◌, ◌⊎◌, ◌+◌, ap, arith, inl, inr, refl, List, Some}
use Rattle.std.specs.Prelude.{slice_get}
use Rattle.grammar.specs.ProfileNumbers.{profile_numbered}
use Rattle.page.specs.declared.endings.Ending.{Ending}
use Rattle.page.specs.declared.endings.Ending.TheVariants.{Done, Faulty, Refused, Full, GoesOn}
use Rattle.page.specs.declared.orders.Order.{Order}
use Rattle.page.specs.declared.robots.RobotFile.{RobotFile}
use Rattle.page.specs.Explaining.{Explains, ExplainsFirst, ExplainsRobots}
use Rattle.page.specs.Robots.{source_bytes}
use Rattle.page.specs.Running.{IsAccepted}
use Rattle.page.specs.Sheets.{IsFull}
use Rattle.page.specs.declared.sheets.Sheet.{Sheet}
use Rattle.tokens.specs.Device.{FailureCount}
use Rattle.tokens.specs.Feed.{failed_again}

-- what was said of the first one is said of it, whichever that is
of_first : (order : Order) (robots : List RobotFile) (first : RobotFile) (ending : Ending) (sheet : Sheet)
    → IsAccepted order robots → slice_get robots 0 ≡ Some first
    → Explains (profile_numbered order.profile) (source_bytes first) ending sheet
    → ending ≡ Full ⊎ (IsFull sheet → ⊥) → ExplainsFirst order robots ending sheet
of_first order robots first ending sheet accepted here is room = record {
  accepted = accepted;
  explains = λ robot there. let same : robot ≡ first = cc (there, here) in rw same is;
  room = room;
}

-- of a sheet with room
pub explained : (order : Order) (robots : List RobotFile) (first : RobotFile) (ending : Ending) (sheet : Sheet)
    → IsAccepted order robots → slice_get robots 0 ≡ Some first
    → Explains (profile_numbered order.profile) (source_bytes first) ending sheet
    → (IsFull sheet → ⊥) → ExplainsRobots order robots ending sheet
explained order robots first Done sheet accepted here is room =
    of_first order robots first Done sheet accepted here is (inr room)
explained order robots first Faulty sheet accepted here is room =
    of_first order robots first Faulty sheet accepted here is (inr room)
explained order robots first Full sheet accepted here is room =
    of_first order robots first Full sheet accepted here is (inl refl)
explained order robots first Refused sheet accepted here is room = absurd is
explained order robots first GoesOn sheet accepted here is room = absurd is

-- a full sheet has no room
pub no_room : (order : Order) (robots : List RobotFile) (sheet : Sheet) → IsAccepted order robots → IsFull sheet →
    ExplainsRobots order robots Full sheet
no_room order robots sheet accepted full = record {
  accepted = accepted;
  explains = λ robot here. inl full;
  room = inl refl;
}

-- a device that never fails has not failed once more
pub never_failed : (account : FailureCount) → account ≡ failed_again account → ⊥
never_failed account e =
    let more : account.failures ≡ account.failures + 1 = ap (λ (a : FailureCount). a.failures) e in omega (arith, more)
