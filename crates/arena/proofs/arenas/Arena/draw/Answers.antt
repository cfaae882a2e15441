use Rattle.std.proofs.Common.{ap, ◌∙◌, FitsSigned, w32, rules}
use Rattle.std.proofs.lemmas.Int.{to_z-of_z}
use Rattle.arena.specs.Answer.{answer, argument_at}
use Rattle.arena.specs.Arena.{Arena}
use Rattle.arena.specs.Representing.{RepresentsField}
use Rattle.arena.specs.contracts.arenas.Arena.{the_view}
use Rattle.arena.proofs.Represents.{same_live}
use Rattle.arena.proofs.arenas.Arena.draw.Goals as goal

pub returns-clause-reply : goal.returns-clause-reply
unfolding answer argument_at
returns-clause-reply c = λ f s robot.
    let fits : FitsSigned w32 c.draw_number.result = search rules in
    let limit_fits = c.ranges.limit in
    simp to_z-of_z
    (simp to_z-of_z at (c.draw_number.ensures.value f (ap (λ (g : Arena). g.random) c.self.view_is ∙ s.random)))

pub returns-clause-stands : goal.returns-clause-stands
unfolding answer
returns-clause-stands c = λ f s robot.
    let now : RepresentsField (the_view c.self.inside) f = rw c.self.view_is s in
    record {
      updates = now.updates;
      robots = now.robots;
      missiles = now.missiles;
      random = c.draw_number.ensures.next _ _ _ now.random;
    }

pub returns-clause-alive : goal.returns-clause-alive
returns-clause-alive c = λ robot.
    same_live c.args.self.now _ robot (ap (λ (g : Arena). g.robots) c.self.view_is)
