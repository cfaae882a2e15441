use Rattle.derivations.proofs.choices.primary.Goals as goal

pub returns-in-Name : goal.returns-in-Name
returns-in-Name c = rw c.in-Name.is (c.named.ensures c.in-Name.field-0)
