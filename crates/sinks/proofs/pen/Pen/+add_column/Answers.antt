use Rattle.std.proofs.Common.{◌≡◌, ◌-◌, ◌<◌, ◌%◌, ◌^◌, ◌++◌, replicate, append_assoc, arith}
use Rattle.sinks.proofs.TextsLemmas.{column_step, column_digit}
use Rattle.sinks.proofs.pen.Pen.+add_column.Goals as goal
use Rattle.sinks.proofs.pen.Pen.+add_column.Goals.{then-n-ge10, else-n-ge10}

pub returns-clause-text : goal.returns-clause-text
returns-clause-text g t c = elim c.if-n-ge10.branch [
  | then-n-ge10 w ↦ λ before text so_far.
      let fits : c.args.n < 2 ^ 64 = omega arith in
      rw (column_step c.args.width c.args.n w.if-n-ge10.true fits, ← append_assoc)
      (c.add_byte.ensures.text before _
      (rw (w.self-is, w.sink-is) (rw w.saturating_sub.ensures at (w.add_column.ensures.text before text so_far))))
  | else-n-ge10 w ↦ λ before text so_far.
      let short : c.args.n % 10 ≡ c.args.n = omega arith in
      rw (column_digit c.args.width c.args.n w.if-n-ge10.false, ← append_assoc)
      (rw short at (c.add_byte.ensures.text before (text ++ replicate (c.args.width - 1) 32)
      (rw (w.self-is, w.sink-is)
      (rw w.saturating_sub-else-n-ge10.ensures at (w.add_spaces.ensures.text before text so_far)))))
]
