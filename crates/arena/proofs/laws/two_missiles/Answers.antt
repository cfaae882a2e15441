use Rattle.arena.proofs.SlotLaws.{at_most_two}
use Rattle.arena.proofs.laws.two_missiles.Goals as goal

pub returns : goal.returns
returns c = λ f i s. at_most_two f.updates c.args.arena.now.slots f.shots s.missiles c.prove_two_missiles.ensures i
