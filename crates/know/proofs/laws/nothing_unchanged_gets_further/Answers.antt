use Rattle.know.proofs.RepairLaws.{unchanged}
use Rattle.know.proofs.laws.nothing_unchanged_gets_further.Goals as goal

pub returns : goal.returns
returns c = unchanged
