use Rattle.std.proofs.Common.{◌≡◌, true, false, refl, sym, ◌∙◌}
use Rattle.arena.specs.Field.{is_live_at}
use Rattle.arena.specs.Due.{burst_damage}
use Rattle.arena.specs.Outlook.{taken_by}
use Rattle.arena.proofs.arenas.Arena.taken_by.Goals as goal

pub returns-then-not-alive-clause-stands : goal.returns-then-not-alive-clause-stands
unfolding taken_by
returns-then-not-alive-clause-stands c = λ f s.
    let dead : is_live_at f c.args.robot ≡ false = sym (c.alive.ensures.stands f s) ∙ c.if-not-alive.true in
    rw dead refl

pub returns-clause-stands : goal.returns-clause-stands
unfolding taken_by burst_damage
returns-clause-stands c = λ f s.
    let live : is_live_at f c.args.robot ≡ true = sym (c.alive.ensures.stands f s) ∙ c.if-not-alive.false in
    rw live (rw (c.next_place.ensures.x f s, c.next_place.ensures.y f s) at c.harm.ensures.value)
