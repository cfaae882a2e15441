use Rattle.std.proofs.Common.{sym, ◌∙◌, refl}
use Rattle.parser.specs.Complete.{ADefinition}
use Rattle.parser.proofs.sources.check_functions.Goals as goal

pub returns-in-Some-clause-lacks : goal.returns-in-Some-clause-lacks
returns-in-Some-clause-lacks g c = ADefinition c.in-Some.line (sym c.undefined_line.ensures ∙ c.in-Some.is) refl
