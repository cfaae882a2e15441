use Rattle.grammar.proofs.Reach.{what_was_read_is_needed}
use Rattle.grammar.proofs.laws.lookahead_is_needed.Goals as goal

pub returns : goal.returns
returns c = what_was_read_is_needed
