use Rattle.arith.proofs.DegreeLemmas.{degree_of-IsDegreeOf}
use Rattle.arith.proofs.laws.degree_differs_by_rounds.Goals as goal

pub returns : goal.returns
returns c = degree_of-IsDegreeOf c.args.number
