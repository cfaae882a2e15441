use Rattle.explanations.proofs.notes.Note.+add_digits.Given as goal

abbrev pub decreases-add_digits : goal.decreases-add_digits
decreases-add_digits l = l.number
