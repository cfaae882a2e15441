use Rattle.std.proofs.Common.{◌≤◌, List, ap, subst, sym, ◌∙◌, length, arith}
use Rattle.arena.specs.Arena.{Missile}
use Rattle.arena.specs.Still.{NoBurstBefore}
use Rattle.arena.proofs.Represents.{refill_is, refill_same}
use Rattle.arena.proofs.SlotLaws.{sooner_all}
use Rattle.arena.proofs.missiles.Missiles.fire.Goals as goal

pub invariant_of-self : goal.invariant_of-self
invariant_of-self c =
    let i = c.self.invariant in
    let next = c.min-self-inside.result in
    let len = c.fire_from_slot.auto.slots ∙ ap length c.as_mut_slice.ensures.value in
    let low : next ≤ c.self.inside.next = omega (arith, c.min-self-inside.ensures) in
    let burst : next ≤ c.args.missile.burst = omega (arith, c.min-self-inside.ensures, c.burst.ensures) in
    let before : NoBurstBefore next c.as_mut_slice.result.now =
    subst (λ (slots : List (List Missile)). NoBurstBefore next slots) (sym c.as_mut_slice.ensures.value)
    (sooner_all c.self.inside.next next c.self.inside.slots.items low i.1) in
    rw (refill_is c.self.inside.slots.items c.fire_from_slot.new.slots len)
    (omega (arith, len, i.0), c.fire_from_slot.ensures.next next burst before)

pub returns-clause-shots : goal.returns-clause-shots
returns-clause-shots c = λ updates shots flies holds.
    rw (refill_same c.fire_from_slot.auto.slots c.as_mut_slice.ensures.value)
    (c.fire_from_slot.ensures.shots updates shots flies (rw (c.as_mut_slice.ensures.value ∙ c.self.view_is) holds))

pub fire_from_slot-requires-clause-inside : goal.fire_from_slot-requires-clause-inside
fire_from_slot-requires-clause-inside c =
    let size = ap length (c.as_mut_slice.ensures.value ∙ c.self.view_is) in
    let inside = c.requires.inside in
    omega (arith, size, inside)

pub fire_from_slot-requires-clause-free : goal.fire_from_slot-requires-clause-free
fire_from_slot-requires-clause-free c = rw (c.as_mut_slice.ensures.value ∙ c.self.view_is) c.requires.free

pub returns-clause-two : goal.returns-clause-two
returns-clause-two c = λ two.
    rw (refill_same c.fire_from_slot.auto.slots c.as_mut_slice.ensures.value)
    (c.fire_from_slot.ensures.two (rw (c.as_mut_slice.ensures.value ∙ c.self.view_is) two))

pub returns-clause-count : goal.returns-clause-count
returns-clause-count c =
    rw (refill_same c.fire_from_slot.auto.slots c.as_mut_slice.ensures.value)
    (c.fire_from_slot.auto.slots ∙ ap length (c.as_mut_slice.ensures.value ∙ c.self.view_is))
