use Rattle.std.proofs.Common.{◌≡◌, ◌+◌, ◌∙◌, not, eqb, drop, sym, ap, arith}
use Rattle.std.specs.List.{prefix_len}
use Rattle.tokens.proofs.SpanLemmas.{block_passed, neither}
use Rattle.tokens.proofs.byte_spans.span_before_end.Goals as goal

pub loop-count-preserved : goal.loop-count-preserved
loop-count-preserved c =
    let none = neither c.has_end-here.result c.has_end-behind.result c.if-here-behind.false in
    let here =
    block_passed (λ b. not (eqb b 26)) c.args.bytes.now c.loop-count.count 64 64 (omega arith)
    (sym (c.has_end-here.ensures none.0)) (omega arith) in
    let behind =
    block_passed (λ b. not (eqb b 26)) c.args.bytes.now (c.loop-count.count + 64) 64 64 (omega arith)
    (sym (c.has_end-behind.ensures none.1)) (omega arith) in
    let further : c.loop-count.count + 64 + 64 ≡ c.loop-count.count + 128 = omega arith in
    record {
      within = omega arith;
      count =
          c.loop-count.invariant.count ∙ ap (λ k. c.loop-count.count + k) here ∙
          ap (λ k. c.loop-count.count + (64 + k)) behind
          ∙
          ap (λ n. c.loop-count.count + (64 + (64 + prefix_len (λ b. not (eqb b 26)) (drop n c.args.bytes.now))))
          further ∙ omega arith;
    }
