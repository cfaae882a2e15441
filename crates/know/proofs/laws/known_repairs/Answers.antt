use Rattle.know.proofs.KnownRepairs.{repairs}
use Rattle.know.proofs.laws.known_repairs.Goals as goal

pub returns : goal.returns
returns c = repairs
