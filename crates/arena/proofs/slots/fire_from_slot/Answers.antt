-- The robot's own list and the list of all shots end with the same shot.
use Rattle.std.proofs.Common.{◌∷◌, ◌++◌, [], set, subst, sym, ap, ◌∙◌}
use Rattle.arena.specs.Arena.{shot_of}
use Rattle.arena.specs.Representing.{HoldsShots}
use Rattle.arena.proofs.SlotLaws.{holds_fired, inside_is, room_is, two_fired, before_fired}
use Rattle.arena.proofs.slots.fire_from_slot.Goals as goal

pub returns-clause-shots : goal.returns-clause-shots
returns-clause-shots c = λ updates shots flies holds.
    let own = inside_is c.args.slots.now c.args.robot [] c.index-slots-robot.result c.requires.inside in
    subst
    (λ own. HoldsShots updates (set c.args.slots.now c.args.robot own)
    (shots ++ shot_of c.args.robot c.args.missile ∷ []))
    (ap (λ ms. ms ++ c.args.missile ∷ []) own ∙ sym c.add_missile.ensures)
    (holds_fired updates c.args.slots.now shots c.args.robot c.args.missile c.requires.inside flies holds)

pub add_missile-requires : goal.add_missile-requires
add_missile-requires c =
    room_is c.args.slots.now c.args.robot c.index-slots-robot.result c.requires.inside c.requires.free

pub returns-clause-two : goal.returns-clause-two
returns-clause-two c =
    two_fired c.args.slots.now c.args.robot c.index-slots-robot.result c.add_missile.new.self c.args.missile
    c.requires.inside
    c.requires.free c.add_missile.ensures

pub returns-clause-next : goal.returns-clause-next
returns-clause-next c = λ update sooner before.
    before_fired update c.args.slots.now c.args.robot c.index-slots-robot.result c.add_missile.new.self c.args.missile
    c.requires.inside c.add_missile.ensures sooner before
