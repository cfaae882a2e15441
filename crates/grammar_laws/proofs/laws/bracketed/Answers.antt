use Rattle.grammar_laws.proofs.Bracketed.{expressions, statements}
use Rattle.grammar_laws.proofs.KnownSpellings.{spellings}
use Rattle.grammar_laws.proofs.laws.bracketed.Goals as goal

pub returns-clause-expressions : goal.returns-clause-expressions
returns-clause-expressions c = expressions c.derivations.ensures.ends

pub returns-clause-statements : goal.returns-clause-statements
returns-clause-statements c = statements c.derivations.ensures.ends

pub returns-clause-spellings : goal.returns-clause-spellings
returns-clause-spellings c = spellings
