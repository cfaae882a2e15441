use Rattle.std.proofs.Common.{◌≡◌, ◌+◌, ◌<◌, length, true, sym, ap, ◌∙◌, arith}
use Rattle.sinks.specs.Portions.{buffer_bytes}
use Rattle.sinks.proofs.PenLemmas.{nothing_more, not_failed, too_long}
use Rattle.sinks.proofs.pen.Pen.add.Goals as goal
use Rattle.sinks.proofs.pen.Pen.add.Goals.{then-bytes-remaining_capacity, else-bytes-remaining_capacity}

pub returns-else-not-self-clause-text : goal.returns-else-not-self-clause-text
returns-else-not-self-clause-text g c = λ before text so_far.
    let failed : c.if-bytes-remaining_capacity.self.failed ≡ true =
    sym (ap (λ p. p.failed) c.self-else-bytes-gt-BUFFER_BYTES.view_is) ∙ c.if-not-self.false in
    elim c.if-bytes-remaining_capacity.branch [
      | then-bytes-remaining_capacity w ↦
          let long : buffer_bytes < length c.args.self.now.buffer + length c.args.bytes.now =
          omega (
            arith,
            w.if-bytes-remaining_capacity.true,
            c.remaining_capacity.ensures,
            ap (λ p. length p.buffer) c.self.view_is,
          ) in
          nothing_more c.if-bytes-remaining_capacity.self text c.args.bytes.now
          (rw (w.self-is, w.sink-is) (w.flush_buffer.ensures.text before text so_far.puts)) failed
          (too_long c.args.self.now text c.args.bytes.now so_far long)
      | else-bytes-remaining_capacity w ↦
          nothing_more c.if-bytes-remaining_capacity.self text c.args.bytes.now
          (rw (w.self-is, w.sink-is) so_far.puts) failed
          (not_failed c.args.self.now text c.args.bytes.now so_far (rw (← w.self-is) failed))
    ]
