use Rattle.std.proofs.Common.{◌≡◌, ◌<◌, ◌%◌, ◌^◌, append_assoc, arith}
use Rattle.std.proofs.lemmas.Fmt.{decimal_step, decimal_digit}
use Rattle.sinks.proofs.pen.Pen.+add_number.Goals as goal
use Rattle.sinks.proofs.pen.Pen.+add_number.Goals.{then-n-ge10, else-n-ge10}

pub returns-clause-text : goal.returns-clause-text
returns-clause-text g t c = elim c.if-n-ge10.branch [
  | then-n-ge10 w ↦ λ before text so_far.
      let fits : c.args.n < 2 ^ 64 = omega arith in
      rw (decimal_step c.args.n w.if-n-ge10.true fits, ← append_assoc)
      (c.add_byte.ensures.text before _ (rw (w.self-is, w.sink-is) (w.add_number.ensures.text before text so_far)))
  | else-n-ge10 w ↦ λ before text so_far.
      let short : c.args.n % 10 ≡ c.args.n = omega arith in
      rw (decimal_digit c.args.n w.if-n-ge10.false)
      (rw short at (c.add_byte.ensures.text before text (rw (w.self-is, w.sink-is) so_far)))
]
