use Rattle.std.proofs.Common.{sym, subst}
use Rattle.arena.specs.Arena.{Arena}
use Rattle.arena.specs.contracts.arenas.Arena.{the_view}
use Rattle.arena.specs.Still.{IsStill}
use Rattle.arena.specs.Representing.{RepresentsField}
use Rattle.arena.proofs.Still.{only_rests}
use Rattle.arena.proofs.arenas.Arena.update_times.Goals as goal

pub returns-clause-stands : goal.returns-clause-stands
returns-clause-stands c = λ f s.
    let now : RepresentsField (the_view c.self.inside) f = rw c.self.view_is s in
    let still = subst (λ (g : Arena). IsStill g.robots g.slots) (sym c.self.view_is) c.requires.still in
    only_rests (the_view c.self.inside) f c.args.updates now still
