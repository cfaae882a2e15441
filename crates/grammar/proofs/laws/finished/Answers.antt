use Rattle.grammar.proofs.FileLaws.{finished, undefined, without_main}
use Rattle.grammar.proofs.laws.finished.Goals as goal

pub returns-clause-file : goal.returns-clause-file
returns-clause-file c = finished

pub returns-clause-undefined : goal.returns-clause-undefined
returns-clause-undefined c = undefined

pub returns-clause-without_main : goal.returns-clause-without_main
returns-clause-without_main c = without_main
