use Rattle.std.proofs.Common.{ap, ◌∙◌, pos, FitsSigned, w32, length, arith}
use Rattle.std.proofs.lemmas.Int.{to_z-of_z}
use Rattle.arena.specs.Answer.{answer, argument_at}
use Rattle.arena.specs.Arena.{Arena}
use Rattle.arena.proofs.Represents.{inside_if_lives}
use Rattle.arena.proofs.arenas.Arena.scan.Goals as goal

pub nearest_range-requires-clause-inside : goal.nearest_range-requires-clause-inside
nearest_range-requires-clause-inside c =
    let robots = ap length (c.as_slice.ensures.value ∙ ap (λ (g : Arena). g.robots) c.self.view_is) in
    let inside = inside_if_lives c.args.self.now c.args.robot c.requires in
    omega (arith, robots, inside)

pub returns : goal.returns
unfolding answer argument_at
returns c = λ f s.
    let robots = c.as_slice.ensures.value ∙ ap (λ (g : Arena). g.robots) c.self.view_is ∙ s.robots in
    let fd = c.ranges.degree in
    let fr = c.ranges.resolution in
    let ff : FitsSigned w32 c.from.result = record { sfits = c.from.type_inv } in
    let h =
    simp (c.norm_degree.ensures.value, c.clamped_argument-resolution.ensures.value, to_z-of_z) at
    (c.nearest_range.ensures f robots) in
    simp to_z-of_z (c.from.ensures ∙ ap pos h)
