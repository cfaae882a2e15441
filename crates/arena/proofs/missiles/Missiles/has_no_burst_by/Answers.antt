use Rattle.std.proofs.Common.{◌<◌, List, subst, arith}
use Rattle.std.proofs.lemmas.Bool.Decides.{nat_tests}
use Rattle.arena.specs.Arena.{Missile}
use Rattle.arena.specs.Still.{NoBurstBefore}
use Rattle.arena.proofs.SlotLaws.{quiet_hurts}
use Rattle.arena.proofs.missiles.Missiles.has_no_burst_by.Goals as goal

pub returns : goal.returns
returns c = λ e updates shots x y u holds.
    let early : c.args.update < c.self.inside.next = grind (arith, nat_tests) in
    let later =
    subst (λ (slots : List (List Missile)). NoBurstBefore c.self.inside.next slots) c.self.view_is c.self.invariant.1 in
    quiet_hurts updates c.args.update c.self.inside.next x y c.args.self.now shots u early later holds
