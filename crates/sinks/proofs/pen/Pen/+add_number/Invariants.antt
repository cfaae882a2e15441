use Rattle.sinks.proofs.pen.Pen.+add_number.Given as goal

abbrev pub decreases-add_number : goal.decreases-add_number
decreases-add_number g l = l.n
