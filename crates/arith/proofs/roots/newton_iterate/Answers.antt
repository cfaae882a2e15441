use Rattle.arith.proofs.RootLemmas.{iterate_above}
use Rattle.arith.proofs.roots.newton_iterate.Goals as goal

pub returns-clause-above : goal.returns-clause-above
returns-clause-above c = iterate_above c.args.square c.args.guess c.requires.some
