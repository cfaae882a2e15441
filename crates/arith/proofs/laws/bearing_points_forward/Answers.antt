use Rattle.arith.proofs.BearingLemmas.{bearing_reach}
use Rattle.arith.proofs.laws.bearing_points_forward.Goals as goal

pub returns : goal.returns
returns c = bearing_reach c.args.dx c.args.dy c.requires
