use Rattle.std.proofs.Common.{◌≡◌, ◌∷◌, ◌+◌, take, drop}
use Rattle.std.specs.List.{prefix_len}
use Rattle.tokens.specs.Characters.{is_name_byte}
use Rattle.tokens.specs.Name.{padded}
use Rattle.tokens.proofs.names.Name.take_bytes.Given as goal

abbrev pub invariant-loop-i : goal.invariant-loop-i
invariant-loop-i l = record {
  bytes : l.self-inside.bytes ≡ padded (l.first ∷ take l.i l.rest);
  count : prefix_len is_name_byte l.rest ≡ l.i + prefix_len is_name_byte (drop l.i l.rest);
}
