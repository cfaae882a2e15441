use Rattle.grammar.proofs.Verdicts.{clean_verdict, enough_ends, fault_verdict}
use Rattle.grammar.proofs.laws.derivations.Goals as goal

pub returns-clause-ends : goal.returns-clause-ends
returns-clause-ends c = enough_ends

pub returns-clause-faultless : goal.returns-clause-faultless
returns-clause-faultless c = clean_verdict

pub returns-clause-first_fault : goal.returns-clause-first_fault
returns-clause-first_fault c = fault_verdict
