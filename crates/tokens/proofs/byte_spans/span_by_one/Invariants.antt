use Rattle.std.proofs.Common.{◌≡◌, ◌+◌, take, drop, not, ◌==◌}
use Rattle.std.specs.List.{prefix_len, count_by}
use Rattle.tokens.proofs.byte_spans.span_by_one.Given as goal

abbrev pub invariant-loop-i : goal.invariant-loop-i
invariant-loop-i g l = record {
  count : prefix_len (λ b. not (g.S.StopByte.stops b)) l.bytes ≡
      l.i + prefix_len (λ b. not (g.S.StopByte.stops b)) (drop l.i l.bytes);
  lines : l.lines ≡ count_by (λ b. b == 10) (take l.i l.bytes);
}
