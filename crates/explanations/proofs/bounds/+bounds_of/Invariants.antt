use Rattle.explanations.proofs.bounds.+bounds_of.Given as goal

-- an operator or a variable fewer is looked at
abbrev pub decreases-bounds_of : goal.decreases-bounds_of
decreases-bounds_of l = l.depth
