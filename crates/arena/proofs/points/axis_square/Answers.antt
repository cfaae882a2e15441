use Rattle.std.proofs.Common.{◌≤◌, ℕ, unsigned_abs, ◌*◌, ap, arith}
use Rattle.arena.proofs.Squares.{between_bits, between_size, between_small, between_fits, square_fits, square_back, area_most}
use Rattle.arena.proofs.points.axis_square.Goals as goal

pub overflow_sub-difference : goal.overflow_sub-difference
overflow_sub-difference c =
    between_fits c.args.from c.args.to c.from.result c.from-2.result c.from.ensures c.from-2.ensures c.requires.from
    c.requires.to

-- what lies between the two
small : (c : goal.After-from-2) → unsigned_abs (between_bits c.from.result c.from-2.result) ≤ 9999
small c =
    between_small c.args.from c.args.to c.from.result c.from-2.result c.from.ensures c.from-2.ensures c.requires.from
    c.requires.to

pub overflow_mul-result : goal.overflow_mul-result
overflow_mul-result c = square_fits (between_bits c.from.result c.from-2.result) (small c)

pub overflow_cast-result : goal.overflow_cast-result
overflow_cast-result c =
    let between = between_bits c.from.result c.from-2.result in
    let most = area_most between (small c) in
    rw (square_back between (small c)) (tt, record { fits = omega (arith, most) })

pub returns-clause-value : goal.returns-clause-value
returns-clause-value c =
    let size =
    between_size c.args.from c.args.to c.from.result c.from-2.result c.from.ensures c.from-2.ensures c.requires.from
    c.requires.to in
    rw (square_back (between_bits c.from.result c.from-2.result) (small c)) (ap (λ (n : ℕ). n * n) size)

pub returns-clause-most : goal.returns-clause-most
returns-clause-most c =
    let between = between_bits c.from.result c.from-2.result in
    rw (square_back between (small c)) (area_most between (small c))
