use Rattle.std.proofs.Common.{◌≡◌, ◌+◌, ◌*◌, unsigned_abs, to_z, of_z, w32, ap, arith}
use Rattle.arena.specs.declared.ways.Way.{Way}
use Rattle.arena.specs.Nearer.{squared_length}
use Rattle.arena.proofs.Squares.{both_bits, both_back, both_most}
use Rattle.arena.proofs.ways.Way.square.Goals as goal

pub overflow_cast-result : goal.overflow_cast-result
overflow_cast-result c =
    let way = c.args.self.now in
    let most = both_most way.east way.north way.east_in_field way.north_in_field in
    rw (both_back way.east way.north way.east_in_field way.north_in_field) (tt, record { fits = omega (arith, most) })

-- the square, as the code works it out
size : (way : Way) →
    unsigned_abs (to_z w32 (of_z w32 (both_bits way.east way.north))) ≡
    unsigned_abs way.east * unsigned_abs way.east + unsigned_abs way.north * unsigned_abs way.north
size way = ap unsigned_abs (both_back way.east way.north way.east_in_field way.north_in_field)

pub returns-clause-value : goal.returns-clause-value
unfolding squared_length
returns-clause-value c = let square = size c.args.self.now in omega arith

pub returns-clause-most : goal.returns-clause-most
returns-clause-most c =
    let way = c.args.self.now in
    let most = both_most way.east way.north way.east_in_field way.north_in_field in
    let square = size way in
    omega arith
