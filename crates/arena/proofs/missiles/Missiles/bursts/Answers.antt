use Rattle.std.proofs.Common.{List, sym, subst, ◌∙◌}
use Rattle.arena.specs.Arena.{Missile}
use Rattle.arena.specs.Representing.{HoldsShots}
use Rattle.arena.proofs.missiles.Missiles.bursts.Goals as goal

pub returns-clause-harm : goal.returns-clause-harm
returns-clause-harm c = λ updates shots u holds.
    c.bursts_of_slots.ensures.harm updates shots u
    (subst (λ (slots : List (List Missile)). HoldsShots updates slots shots)
    (sym (c.as_slice.ensures.value ∙ c.self.view_is)) holds)
