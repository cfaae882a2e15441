use Rattle.room.proofs.AtReturn.{restarts_at_return}
use Rattle.room.proofs.laws.restarts_at_return.Goals as goal

pub returns : goal.returns
returns c = restarts_at_return
