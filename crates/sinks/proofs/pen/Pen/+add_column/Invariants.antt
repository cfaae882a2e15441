use Rattle.sinks.proofs.pen.Pen.+add_column.Given as goal

abbrev pub decreases-add_column : goal.decreases-add_column
decreases-add_column g l = l.n
