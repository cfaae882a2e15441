use Rattle.std.proofs.Common.{◌+ℤ◌, ◌*ℤ◌, w32, refl, arith}
use Rattle.std.proofs.lemmas.Int.{to_z-of_z}
use Rattle.arith.specs.Bearing.{projection_of}
use Rattle.arith.proofs.BearingLemmas.{reach_fits}
use Rattle.arena.proofs.Products.{product_fits, product_back}
use Rattle.arena.proofs.arcs.Direction.projection.Goals as goal

pub overflow_mul-result : goal.overflow_mul-result
overflow_mul-result c =
    let way = c.args.way.now in
    let here = c.args.self.now in
    let small = way.east_in_field in
    product_fits way.east here.cosine (omega (arith, small)) here.cosine_in_scale

pub overflow_mul-result-2 : goal.overflow_mul-result-2
overflow_mul-result-2 c =
    let way = c.args.way.now in
    let here = c.args.self.now in
    let small = way.north_in_field in
    product_fits way.north here.sine (omega (arith, small)) here.sine_in_scale

pub overflow_add-result : goal.overflow_add-result
overflow_add-result c =
    let way = c.args.way.now in
    let here = c.args.self.now in
    let east = way.east_in_field in
    let north = way.north_in_field in
    rw (
      product_back way.east here.cosine (omega (arith, east)) here.cosine_in_scale,
      product_back way.north here.sine (omega (arith, north)) here.sine_in_scale,
    )
    (reach_fits way.east way.north here.cosine here.sine east here.cosine_in_scale north here.sine_in_scale)

pub returns : goal.returns
unfolding projection_of
returns c =
    let way = c.args.way.now in
    let here = c.args.self.now in
    let east = way.east_in_field in
    let north = way.north_in_field in
    let fits =
    reach_fits way.east way.north here.cosine here.sine east here.cosine_in_scale north here.sine_in_scale in
    rw (
      product_back way.east here.cosine (omega (arith, east)) here.cosine_in_scale,
      product_back way.north here.sine (omega (arith, north)) here.sine_in_scale,
      to_z-of_z w32 (way.east *ℤ here.cosine +ℤ way.north *ℤ here.sine) fits,
      here.cosine_of_degree,
      here.sine_of_degree,
    ) refl
