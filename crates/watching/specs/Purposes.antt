-- What a robot asks the field for.
use Rattle.std.specs.Prelude.{ℕ, ◌+◌}
use Rattle.grammar.specs.declared.resolved_names.Intrinsic.{Intrinsic}
use Rattle.grammar.specs.declared.resolved_names.Intrinsic.TheVariants.{Scan, Cannon, Drive, Speed, LocX, LocY}
use Rattle.watching.specs.declared.shares.Purpose.{Purpose}
use Rattle.watching.specs.declared.shares.Purpose.TheVariants.{Moving, Scanning, Shooting, Sums}
use Rattle.watching.specs.declared.shares.Shares.{Shares}

abbrev pub purpose_of : Intrinsic → Purpose
purpose_of Scan = Scanning
purpose_of Cannon = Shooting
purpose_of Drive = Moving
purpose_of Speed = Moving
purpose_of LocX = Moving
purpose_of LocY = Moving
purpose_of _ = Sums

-- all cycles that are counted
abbrev pub total_of : Shares → ℕ
total_of s = s.moving + s.scanning + s.shooting + s.sums + s.open_cycles

-- those for a purpose
abbrev pub share_of : Shares → Purpose → ℕ
share_of s Moving = s.moving
share_of s Scanning = s.scanning
share_of s Shooting = s.shooting
share_of s Sums = s.sums
