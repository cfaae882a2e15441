-- Each turn rules a chunk out, or finds the bearing in it.
use Rattle.std.proofs.Common.{◌*◌, ◌+◌, ◌<◌, ◌<ℤ◌, ℕ, FitsSigned, rules, arith}
use Rattle.std.specs.Int.{w32}
use Rattle.std.proofs.lemmas.Int.{to_z-of_z}
use Rattle.arith.specs.Bearing.{projection_of, projections}
use Rattle.arith.specs.Furthest.{IsGreatest}
use Rattle.arith.proofs.BearingLemmas.{IsFirstGreatest, first_of_chunk, none_in_chunk, some_reaches, bearing_is_first, bearing_of_is_first}
use Rattle.arith.proofs.bearings.bearing.Goals.{At-loop-chunk}
use Rattle.arith.proofs.bearings.bearing.Goals as goal

-- the numbers that the calls were given are those of the caller
so_far : (c : At-loop-chunk) →
    IsGreatest (projections c.args.dx c.args.dy) c.greatest_projection-furthest.result ×
    ((degree : ℕ) → degree < 8 * c.loop-chunk.chunk →
    projection_of c.args.dx c.args.dy degree <ℤ c.greatest_projection-furthest.result)
so_far c =
    let most = c.greatest_projection-furthest.result in
    let fits : FitsSigned w32 most = search (rules, c.greatest_projection-furthest.type_inv) in (
      rw (to_z-of_z w32 c.args.dx c.ranges.dx, to_z-of_z w32 c.args.dy c.ranges.dy) at
          c.greatest_projection-furthest.ensures,
      rw (to_z-of_z w32 c.args.dx c.ranges.dx, to_z-of_z w32 c.args.dy c.ranges.dy, to_z-of_z w32 most fits) at
          c.loop-chunk.invariant,
    )

found : (c : goal.In-Some) →
    IsFirstGreatest (projection_of c.args.dx c.args.dy) 360 (8 * c.loop-chunk.chunk + c.in-Some.lane)
found c =
    let most = c.greatest_projection-furthest.result in
    let fits : FitsSigned w32 most = search (rules, c.greatest_projection-furthest.type_inv) in
    let so = so_far (goal.at.overflow_add-result c).At-loop-chunk in
    first_of_chunk c.args.dx c.args.dy most c.loop-chunk.chunk c.in-Some.lane c.loop-chunk-test.true so.0 so.1
    (rw (to_z-of_z w32 c.args.dx c.ranges.dx, to_z-of_z w32 c.args.dy c.ranges.dy, to_z-of_z w32 most fits) at
    c.in-Some.ensures)

pub overflow_add-result : goal.overflow_add-result
overflow_add-result c = let within = (found c).within in search (rules, within)

pub returns-in-Some-clause-furthest : goal.returns-in-Some-clause-furthest
returns-in-Some-clause-furthest c =
    bearing_is_first c.args.dx c.args.dy (8 * c.loop-chunk.chunk + c.in-Some.lane) (found c)

pub returns-in-Some-clause-value : goal.returns-in-Some-clause-value
returns-in-Some-clause-value c =
    bearing_of_is_first c.args.dx c.args.dy (8 * c.loop-chunk.chunk + c.in-Some.lane) (found c)

pub loop-chunk-preserved : goal.loop-chunk-preserved
loop-chunk-preserved c =
    let most = c.greatest_projection-furthest.result in
    let fits : FitsSigned w32 most = search (rules, c.greatest_projection-furthest.type_inv) in
    let so = so_far (goal.at.loop-chunk-preserved c).At-loop-chunk in
    let none =
    rw (to_z-of_z w32 c.args.dx c.ranges.dx, to_z-of_z w32 c.args.dy c.ranges.dy, to_z-of_z w32 most fits) at
    c.in_default.ensures in
    rw (to_z-of_z w32 c.args.dx c.ranges.dx, to_z-of_z w32 c.args.dy c.ranges.dy, to_z-of_z w32 most fits)
    (none_in_chunk c.args.dx c.args.dy most c.loop-chunk.chunk c.loop-chunk-test.true so.0 so.1 none)

-- the last chunk ends the round
past_all : (c : goal.After-loop-chunk) → ⊥
past_all c =
    let so = so_far (goal.at.returns-clause-furthest c).At-loop-chunk in
    some_reaches c.args.dx c.args.dy c.greatest_projection-furthest.result so.0 (λ degree l. so.1 degree (omega arith))

pub returns-clause-furthest : goal.returns-clause-furthest
returns-clause-furthest c = absurd (past_all c)

pub returns-clause-value : goal.returns-clause-value
returns-clause-value c = absurd (past_all c)
