use Rattle.grammar_laws.proofs.ClosedNesting.{nested_close}
use Rattle.grammar_laws.proofs.laws.nesting.Goals as goal

pub returns : goal.returns
returns c = nested_close
