use Rattle.std.proofs.Common.{◌≡◌, rules}
use denote.Enum.Bare.{same_true}
use Rattle.grammar.specs.contracts.diagnostics.Code as codes
use Rattle.know.proofs.repairs.is_same_code.Goals as goal

pub returns : goal.returns
returns c same = same_true codes.the_type tt _ _ (search rules)
