use Rattle.std.proofs.Common.{FitsSigned, w32, refl, rules}
use Rattle.std.proofs.lemmas.Int.{to_z-of_z}
use Rattle.arith.specs.Bearing.{projection_of}
use Rattle.arith.proofs.BearingLemmas.{part_fits, reach_fits}
use Rattle.arith.proofs.bearings.projection.Goals as goal

pub returns : goal.returns
unfolding projection_of
returns c =
    let dx_fits = c.ranges.dx in
    let dy_fits = c.ranges.dy in
    let cosine_fits : FitsSigned w32 c.cosine_at.result = search rules in
    let sine_fits : FitsSigned w32 c.sine_at.result = search rules in
    let east = part_fits c.args.dx c.cosine_at.result c.requires.dx_in_field c.cosine_at.ensures.within_scale in
    let north = part_fits c.args.dy c.sine_at.result c.requires.dy_in_field c.sine_at.ensures.within_scale in
    let sum =
    reach_fits c.args.dx c.args.dy c.cosine_at.result c.sine_at.result c.requires.dx_in_field
    c.cosine_at.ensures.within_scale c.requires.dy_in_field c.sine_at.ensures.within_scale in
    simp to_z-of_z (rw (c.cosine_at.ensures.value, c.sine_at.ensures.value) refl)
