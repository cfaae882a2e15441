use Rattle.grammar.proofs.ResolvedLaws.{compiled_is_resolved}
use Rattle.grammar.proofs.laws.resolved_files.Goals as goal

pub returns : goal.returns
returns c = compiled_is_resolved
