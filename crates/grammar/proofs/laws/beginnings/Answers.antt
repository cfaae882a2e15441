use Rattle.grammar.proofs.Beginnings.{beginning_follows, follows_begins}
use Rattle.grammar.proofs.laws.beginnings.Goals as goal

pub returns-clause-in_order : goal.returns-clause-in_order
returns-clause-in_order c = beginning_follows

pub returns-clause-begins : goal.returns-clause-begins
returns-clause-begins c = follows_begins
