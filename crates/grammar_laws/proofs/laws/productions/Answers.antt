use Rattle.grammar_laws.proofs.Productions.{acts_by_rows, chooses_rows, has_one_role}
use Rattle.grammar_laws.proofs.laws.productions.Goals as goal

pub returns-clause-rows : goal.returns-clause-rows
returns-clause-rows c = chooses_rows

pub returns-clause-actions : goal.returns-clause-actions
returns-clause-actions c = acts_by_rows

pub returns-clause-roles : goal.returns-clause-roles
returns-clause-roles c = has_one_role
