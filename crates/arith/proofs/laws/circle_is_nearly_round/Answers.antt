use Rattle.arith.proofs.CircleLemmas.{nearly_on_circle}
use Rattle.arith.proofs.laws.circle_is_nearly_round.Goals as goal

pub returns : goal.returns
returns c = nearly_on_circle c.args.degree c.requires
