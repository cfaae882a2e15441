use Rattle.std.proofs.Common.{refl}
use Rattle.arena.specs.Placed.{placed}
use Rattle.arena.proofs.arenas.Arena.placed.Goals as goal

pub returns-clause-stands : goal.returns-clause-stands
unfolding placed
returns-clause-stands c = record {
  updates = refl;
  robots = c.placed_robots.ensures.robots c.args.seed c.args.number;
  missiles = c.none_in_air.ensures.none;
  random = c.generator.ensures;
}
