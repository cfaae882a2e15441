use Rattle.std.proofs.Common.{◌≡◌, ◌+◌, ◌<◌, length, [], ◌∷◌, true, sym, ap, ◌∙◌, arith}
use Rattle.sinks.specs.Portions.{buffer_bytes}
use Rattle.sinks.proofs.PenLemmas.{nothing_more, not_failed, too_long}
use Rattle.sinks.proofs.pen.Pen.add_byte.Goals as goal
use Rattle.sinks.proofs.pen.Pen.add_byte.Goals.{then-remaining_capacity-eq0, else-remaining_capacity-eq0}

pub returns-else-not-self-clause-text : goal.returns-else-not-self-clause-text
returns-else-not-self-clause-text g c = λ before text so_far.
    let failed : c.if-remaining_capacity-eq0.self.failed ≡ true =
    sym (ap (λ p. p.failed) c.self-2.view_is) ∙ c.if-not-self.false in
    elim c.if-remaining_capacity-eq0.branch [
      | then-remaining_capacity-eq0 w ↦
          let long : buffer_bytes < length c.args.self.now.buffer + 1 =
          omega (
            arith,
            w.if-remaining_capacity-eq0.true,
            c.remaining_capacity.ensures,
            ap (λ p. length p.buffer) c.self.view_is,
          ) in
          nothing_more c.if-remaining_capacity-eq0.self text (c.args.byte ∷ [])
          (rw (w.self-is, w.sink-is) (w.flush_buffer.ensures.text before text so_far.puts)) failed
          (too_long c.args.self.now text (c.args.byte ∷ []) so_far long)
      | else-remaining_capacity-eq0 w ↦
          nothing_more c.if-remaining_capacity-eq0.self text (c.args.byte ∷ [])
          (rw (w.self-is, w.sink-is) so_far.puts) failed
          (not_failed c.args.self.now text (c.args.byte ∷ []) so_far (rw (← w.self-is) failed))
    ]
