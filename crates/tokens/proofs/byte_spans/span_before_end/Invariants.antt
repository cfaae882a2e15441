use Rattle.std.proofs.Common.{◌≡◌, ◌+◌, ◌-◌, ◌≤◌, not, eqb, length, drop}
use Rattle.std.specs.List.{prefix_len}
use Rattle.tokens.proofs.byte_spans.span_before_end.Given as goal

abbrev pub invariant-loop-count : goal.invariant-loop-count
invariant-loop-count l = record {
  within : l.count ≤ length l.bytes;
  count : prefix_len (λ b. not (eqb b 26)) l.bytes ≡ l.count + prefix_len (λ b. not (eqb b 26)) (drop l.count l.bytes);
}

abbrev pub decreases-loop-count : goal.decreases-loop-count
decreases-loop-count l = length l.bytes - l.count
