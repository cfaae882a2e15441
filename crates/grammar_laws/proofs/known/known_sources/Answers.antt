use Rattle.grammar_laws.proofs.KnownSources.{trees, misfits, limits, names, needs, beginnings}
use Rattle.grammar_laws.proofs.known.known_sources.Goals as goal

pub returns-clause-trees : goal.returns-clause-trees
returns-clause-trees c = trees

pub returns-clause-misfits : goal.returns-clause-misfits
returns-clause-misfits c = misfits

pub returns-clause-limits : goal.returns-clause-limits
returns-clause-limits c = limits

pub returns-clause-names : goal.returns-clause-names
returns-clause-names c = names

pub returns-clause-needs : goal.returns-clause-needs
returns-clause-needs c = needs

pub returns-clause-beginnings : goal.returns-clause-beginnings
returns-clause-beginnings c = beginnings
