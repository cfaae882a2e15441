use Rattle.grammar_laws.proofs.Emitted.{emits_its_functions, emits_a_part, emits_a_beginning, next_may_follow, beginnings_are_numbered}
use Rattle.grammar_laws.proofs.EmittedFiles.{emits_its_file}
use Rattle.grammar_laws.proofs.laws.emissions.Goals as goal

pub returns-clause-whole : goal.returns-clause-whole
returns-clause-whole c = emits_its_functions

pub returns-clause-part : goal.returns-clause-part
returns-clause-part c = emits_a_part

pub returns-clause-beginning : goal.returns-clause-beginning
returns-clause-beginning c = emits_a_beginning

pub returns-clause-numbers : goal.returns-clause-numbers
returns-clause-numbers c = beginnings_are_numbered

pub returns-clause-next : goal.returns-clause-next
returns-clause-next c = next_may_follow

pub returns-clause-file : goal.returns-clause-file
returns-clause-file c = emits_its_file
