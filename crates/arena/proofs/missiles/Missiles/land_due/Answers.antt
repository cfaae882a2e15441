use Rattle.std.proofs.Common.{List, ap, subst, ◌∙◌, length, arith}
use Rattle.arena.specs.Arena.{Missile}
use Rattle.arena.specs.Still.{NoBurstBefore}
use Rattle.arena.proofs.Represents.{refill_is, refill_same}
use Rattle.arena.proofs.missiles.Missiles.land_due.Goals as goal

pub returns-clause-shots : goal.returns-clause-shots
returns-clause-shots c = λ updates shots u holds.
    rw (refill_same c.land_in_slots.auto.slots c.as_mut_slice.ensures.value)
    (c.land_in_slots.ensures.shots updates shots u (rw (c.as_mut_slice.ensures.value ∙ c.self.view_is) holds))

pub invariant_of-self : goal.invariant_of-self
invariant_of-self c =
    let few = c.self.invariant.0 in
    let next = c.next_burst_of_slots-self-inside.result in
    let len = c.land_in_slots.auto.slots ∙ ap length c.as_mut_slice.ensures.value in
    let refilled = refill_is c.self.inside.slots.items c.land_in_slots.new.slots len in
    let P : List (List Missile) → Type 0 = λ slots. NoBurstBefore next slots in
    rw refilled (
      omega (arith, len, few),
      subst P (c.as_slice.ensures.value ∙ refilled) c.next_burst_of_slots-self-inside.ensures,
    )

pub returns-clause-two : goal.returns-clause-two
returns-clause-two c = λ two.
    rw (refill_same c.land_in_slots.auto.slots c.as_mut_slice.ensures.value)
    (c.land_in_slots.ensures.two (rw (c.as_mut_slice.ensures.value ∙ c.self.view_is) two))

pub returns-clause-count : goal.returns-clause-count
returns-clause-count c =
    rw (refill_same c.land_in_slots.auto.slots c.as_mut_slice.ensures.value)
    (c.land_in_slots.auto.slots ∙ ap length (c.as_mut_slice.ensures.value ∙ c.self.view_is))
