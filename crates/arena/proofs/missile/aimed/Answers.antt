use Rattle.std.proofs.Common.{w32, ap, ◌∙◌, arith}
use Rattle.std.proofs.lemmas.Int.{to_z-of_z}
use Rattle.arena.specs.Rules.{last_place}
use Rattle.arena.specs.Leg.{clamped, along}
use Rattle.arena.proofs.Products.{scaled_fits, scaled_back}
use Rattle.arena.proofs.missile.aimed.Goals as goal

pub overflow_mul-way : goal.overflow_mul-way
overflow_mul-way c = scaled_fits c.args.part c.from.ensures (omega (arith, c.requires.range)) c.requires.part

pub returns-clause-value : goal.returns-clause-value
returns-clause-value c =
    let way = scaled_back c.args.part c.from.ensures (omega (arith, c.requires.range)) c.requires.part in
    c.clamped_place.ensures.value ∙
    ap (clamped last_place)
    (to_z-of_z w32 c.along.result (record { sfits = c.along.type_inv }) ∙ c.along.ensures ∙
    ap (along c.args.from) way)
