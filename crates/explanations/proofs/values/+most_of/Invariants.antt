use Rattle.explanations.proofs.values.+most_of.Given as goal

-- a factor fewer is looked at
abbrev pub decreases-most_of : goal.decreases-most_of
decreases-most_of l = l.depth
