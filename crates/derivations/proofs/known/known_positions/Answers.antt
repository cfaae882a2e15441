use Rattle.derivations.proofs.KnownPositions.{positions_known}
use Rattle.derivations.proofs.known.known_positions.Goals as goal

pub returns : goal.returns
returns c = positions_known
