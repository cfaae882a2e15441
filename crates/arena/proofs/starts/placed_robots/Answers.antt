use Rattle.std.proofs.Common.{◌≡◌, ℕ, ◌<◌, length, subst, ◌++◌, [], ◌∷◌, List, ap, ◌∙◌, get_or, map, take, sym, ℤ, pos, FitsSigned, w32, rules, arith}
use Rattle.std.specs.List.{All}
use Rattle.std.proofs.lemmas.Int.{to_z-of_z}
use Rattle.std.proofs.lemmas.List.{take_all, map_more}
use Rattle.std.proofs.lemmas.Simd.{map-map}
use Rattle.arena.specs.Rules.{last_place}
use Rattle.arena.specs.Leg.{clamped}
use Rattle.arena.specs.Field.{FieldRobot}
use Rattle.arena.specs.Start.{robot_at_rest}
use Rattle.arena.specs.Placed.{placed, IsPlace}
use Rattle.arena.specs.Arena.{Robot, robot_of}
use Rattle.arena.proofs.Sums.{coordinate_back}
use Rattle.arena.proofs.starts.placed_robots.Goals as goal

-- the robot at a given place
abbrev robot_at_place : ℤ × ℤ → FieldRobot
robot_at_place place = robot_at_rest (clamped last_place place.0) (clamped last_place place.1)

-- the place that is read
given : {places items : List (ℤ × ℤ)} (i : ℕ) → items ≡ places → All IsPlace places → i < length items →
    IsPlace (get_or items i (pos 0, pos 0))
given i e all inside = subst (λ (l : List (ℤ × ℤ)). All IsPlace l) (sym e) all i (pos 0, pos 0) inside

pub coordinate-requires : goal.coordinate-requires
coordinate-requires c =
    let is = given c.loop-place.place-index c.as_slice-place-items.ensures.value c.requires c.loop-place-test.true in
    record { least = rw (coordinate_back _ is.0 is.1) is.0; most = rw (coordinate_back _ is.0 is.1) is.1 }

pub coordinate-requires-in-loop-place : goal.coordinate-requires-in-loop-place
coordinate-requires-in-loop-place c =
    let is = given c.loop-place.place-index c.as_slice-place-items.ensures.value c.requires c.loop-place-test.true in
    record { least = rw (coordinate_back _ is.2 is.3) is.2; most = rw (coordinate_back _ is.2 is.3) is.3 }

pub loop-place-preserved : goal.loop-place-preserved
loop-place-preserved c = record {
  count = omega arith;
  robots =
      let items = c.as_slice-place-items.result.now in
      let x_fits : FitsSigned w32 (get_or items c.loop-place.place-index (pos 0, pos 0)).0 = search rules in
      let y_fits : FitsSigned w32 (get_or items c.loop-place.place-index (pos 0, pos 0)).1 = search rules in
      let x = simp to_z-of_z at c.coordinate.ensures.value in
      let y = simp to_z-of_z at c.coordinate-in-loop-place.ensures.value in
      let point = rw (x, y) at c.new-place.ensures in
      let body = rw point at c.at_rest.ensures in
      c.push.ensures.items ∙ ap (λ (l : List Robot). l ++ c.at_rest.result ∷ []) c.loop-place.invariant.robots ∙
      ap (λ (b : Robot). map (λ place. robot_of (robot_at_place place)) (take c.loop-place.place-index items) ++ b ∷ [])
      body ∙
      sym
      (map_more (λ place. robot_of (robot_at_place place)) items c.loop-place.place-index (pos 0, pos 0)
      c.loop-place-test.true);
}

pub returns-clause-robots : goal.returns-clause-robots
unfolding placed
returns-clause-robots c = λ seed number.
    let all = take_all c.loop-place.place-index c.as_slice-place-items.result.now c.loop-place-test.false in
    c.loop-place.invariant.robots ∙
    ap (map (λ place. robot_of (robot_at_place place))) (all ∙ c.as_slice-place-items.ensures.value) ∙
    sym (map-map robot_of robot_at_place c.args.places.now.items)
