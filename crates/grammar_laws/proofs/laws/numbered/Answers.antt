use Rattle.grammar_laws.proofs.Numbered.{mentions, calls, definitions, files}
use Rattle.grammar_laws.proofs.laws.numbered.Goals as goal

pub returns-clause-mentions : goal.returns-clause-mentions
returns-clause-mentions c = mentions

pub returns-clause-calls : goal.returns-clause-calls
returns-clause-calls c = calls

pub returns-clause-definitions : goal.returns-clause-definitions
returns-clause-definitions c = definitions

pub returns-clause-files : goal.returns-clause-files
returns-clause-files c = files
