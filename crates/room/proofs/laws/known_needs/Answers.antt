use Rattle.room.proofs.KnownNeeds.{needs}
use Rattle.room.proofs.laws.known_needs.Goals as goal

pub returns : goal.returns
returns c = needs
