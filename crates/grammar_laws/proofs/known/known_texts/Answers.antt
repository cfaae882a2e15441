use Rattle.grammar_laws.proofs.KnownTexts.{texts}
use Rattle.grammar_laws.proofs.known.known_texts.Goals as goal

pub returns : goal.returns
returns c = texts
