use Rattle.std.proofs.Common.{length}
use Rattle.explanations.proofs.spelling.+is_near.Given as goal

-- each call has a shorter rest of the name
abbrev pub decreases-is_near : goal.decreases-is_near
decreases-is_near l = length l.left.now
