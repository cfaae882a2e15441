use Rattle.std.proofs.Common.{◌≡◌, ◌≤◌, take, length}
use Rattle.grammar.proofs.scope.name_of_bytes.Given as goal

abbrev pub invariant-loop-byte : goal.invariant-loop-byte
invariant-loop-byte l = (l.name ≡ take l.byte-index l.bytes) × (length l.bytes ≤ 31)
