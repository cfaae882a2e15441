use Rattle.room.proofs.Enough.{room_is_enough}
use Rattle.room.proofs.laws.room_is_enough.Goals as goal

pub returns : goal.returns
returns c = room_is_enough
