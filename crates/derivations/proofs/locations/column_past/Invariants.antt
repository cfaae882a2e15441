use Rattle.std.proofs.Common.{◌≡◌, take}
use Rattle.std.specs.Prelude.{min}
use Rattle.derivations.specs.Columns.{column_past}
use Rattle.derivations.proofs.locations.column_past.Given as goal

abbrev pub invariant-loop-byte : goal.invariant-loop-byte
invariant-loop-byte l = l.reached ≡ min (column_past (take l.byte-index l.bytes) l.column) 4294967295
