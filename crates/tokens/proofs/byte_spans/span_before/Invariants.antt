use Rattle.std.proofs.Common.{◌≡◌, ◌+◌, ◌-◌, ◌≤◌, not, eqb, length, take, drop}
use Rattle.std.specs.List.{prefix_len, count_by}
use Rattle.tokens.proofs.byte_spans.span_before.Given as goal

abbrev pub invariant-loop-count : goal.invariant-loop-count
invariant-loop-count g l = record {
  within : l.count ≤ length l.bytes;
  count : prefix_len (λ b. not (g.S.StopByte.stops b)) l.bytes ≡
      l.count + prefix_len (λ b. not (g.S.StopByte.stops b)) (drop l.count l.bytes);
  lines : l.lines ≡ count_by (λ b. eqb b 10) (take l.count l.bytes);
}

abbrev pub decreases-loop-count : goal.decreases-loop-count
decreases-loop-count g l = length l.bytes - l.count
