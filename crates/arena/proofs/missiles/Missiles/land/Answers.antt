use Rattle.std.proofs.Common.{List, subst}
use Rattle.arena.specs.Arena.{Missile}
use Rattle.arena.specs.Still.{NoBurstBefore}
use Rattle.arena.proofs.SlotLaws.{holds_quiet}
use Rattle.arena.proofs.missiles.Missiles.land.Goals as goal

pub returns-then-update-self-clause-shots : goal.returns-then-update-self-clause-shots
returns-then-update-self-clause-shots c = λ updates shots u holds.
    let later =
    subst (λ (slots : List (List Missile)). NoBurstBefore c.self.inside.next slots) c.self.view_is c.self.invariant.1 in
    holds_quiet updates c.args.update c.self.inside.next c.args.self.now shots u c.if-update-self.true later holds
