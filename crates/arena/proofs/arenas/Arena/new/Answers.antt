use Rattle.std.proofs.Common.{refl}
use Rattle.arena.specs.Start.{start}
use Rattle.arena.proofs.arenas.Arena.new.Goals as goal

pub returns-clause-stands : goal.returns-clause-stands
unfolding start
returns-clause-stands c = record {
  updates = refl;
  robots = c.drawn_robots-robots.ensures.robots c.args.seed c.args.number c.generator-random.ensures;
  missiles = c.none_in_air.ensures.none;
  random = c.drawn_robots-robots.ensures.words c.args.seed c.args.number c.generator-random.ensures;
}
