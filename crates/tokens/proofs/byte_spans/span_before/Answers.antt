use Rattle.std.proofs.Common.{◌≡◌, ◌+◌, ◌∙◌, not, eqb, sym, ap, arith}
use Rattle.tokens.proofs.SpanLemmas.{block_passed, block_stops, counts_block, counts_rest, rest_of_run}
use Rattle.tokens.proofs.byte_spans.span_before.Goals as goal

pub returns-then-run-lt-VECTOR_BYTES-clause-count : goal.returns-then-run-lt-VECTOR_BYTES-clause-count
returns-then-run-lt-VECTOR_BYTES-clause-count g c =
    let e = c.span_in_vector-run.ensures in
    let stops =
    block_stops (λ b. not (g.S.StopByte.stops b)) c.args.bytes.now c.loop-count.count c.span_in_vector-run.result.0
    (omega arith) e.count c.if-run-lt-VECTOR_BYTES.true in
    sym (c.loop-count.invariant.count ∙ ap (λ n. c.loop-count.count + n) stops)

pub returns-then-run-lt-VECTOR_BYTES-clause-lines : goal.returns-then-run-lt-VECTOR_BYTES-clause-lines
returns-then-run-lt-VECTOR_BYTES-clause-lines g c =
    let e = c.span_in_vector-run.ensures in
    counts_block (λ b. eqb b 10) c.args.bytes.now c.loop-count.count c.span_in_vector-run.result.0 _ _
    c.loop-count.invariant.within e.within c.loop-count.invariant.lines e.lines

pub loop-count-preserved : goal.loop-count-preserved
loop-count-preserved g c =
    let e = c.span_in_vector-run.ensures in
    let n = c.loop-count.invariant in
    let whole : c.span_in_vector-run.result.0 ≡ 32 = omega (arith, e.within) in
    let passed =
    block_passed (λ b. not (g.S.StopByte.stops b)) c.args.bytes.now c.loop-count.count 32 c.span_in_vector-run.result.0
    (omega arith) e.count whole in
    record {
      within = omega (arith, whole);
      count = rw whole (n.count ∙ ap (λ k. c.loop-count.count + k) passed ∙ omega arith);
      lines =
          counts_block (λ b. eqb b 10) c.args.bytes.now c.loop-count.count c.span_in_vector-run.result.0 _ _ n.within
          e.within n.lines e.lines;
    }

pub returns-clause-count : goal.returns-clause-count
returns-clause-count g c =
    rest_of_run (λ b. not (g.S.StopByte.stops b)) c.args.bytes.now c.loop-count.count c.span_by_one-run.result.0
    c.loop-count.invariant.count c.span_by_one-run.ensures.count

pub returns-clause-lines : goal.returns-clause-lines
returns-clause-lines g c =
    counts_rest (λ b. eqb b 10) c.args.bytes.now c.loop-count.count c.span_by_one-run.result.0 _ _
    c.loop-count.invariant.within c.loop-count.invariant.lines c.span_by_one-run.ensures.lines
