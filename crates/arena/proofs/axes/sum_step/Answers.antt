use Rattle.std.proofs.Common.{pos, arith}
use Rattle.arena.proofs.Products.{scaled_fits, scaled_back, size_most}
use Rattle.arena.proofs.axes.sum_step.Goals as goal

pub overflow_mul-result : goal.overflow_mul-result
overflow_mul-result c = scaled_fits c.args.part c.from.ensures (omega (arith, c.requires.speed)) c.requires.part

pub returns-clause-value : goal.returns-clause-value
returns-clause-value c = scaled_back c.args.part c.from.ensures (omega (arith, c.requires.speed)) c.requires.part

pub returns-clause-most : goal.returns-clause-most
returns-clause-most c =
    rw (scaled_back c.args.part c.from.ensures (omega (arith, c.requires.speed)) c.requires.part)
    (size_most (pos c.args.speed) c.args.part 100 100000 c.requires.speed c.requires.part)
