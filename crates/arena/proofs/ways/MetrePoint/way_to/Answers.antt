use Rattle.std.proofs.Common.{arith}
use Rattle.arena.specs.Field.{metres_x, metres_y}
use Rattle.arena.specs.Scan.{east_to, north_to}
use Rattle.arena.proofs.Squares.{way_between}
use Rattle.arena.proofs.ways.MetrePoint.way_to.Goals as goal

pub returns-clause-east : goal.returns-clause-east
unfolding east_to
returns-clause-east c = λ a b at is.
    way_between (metres_x b) (metres_x a) c.from.ensures c.from-2.ensures (omega (arith, c.metres_x.ensures.most))
    (omega (arith, c.args.self.now.x_in_field)) (c.metres_x.ensures.value b is) at.east

pub returns-clause-north : goal.returns-clause-north
unfolding north_to
returns-clause-north c = λ a b at is.
    way_between (metres_y b) (metres_y a) c.from-3.ensures c.from-4.ensures (omega (arith, c.metres_y.ensures.most))
    (omega (arith, c.args.self.now.y_in_field)) (c.metres_y.ensures.value b is) at.north
