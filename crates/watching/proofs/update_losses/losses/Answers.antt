use Rattle.std.proofs.Common.{◌∙◌, ◌-◌, ◌++◌, ap, arith, length}
use Rattle.std.proofs.lemmas.List.{length-map}
use Rattle.arena.specs.Arena.{robot_of}
use Rattle.watching.specs.Losses.{hurts, knocks, wall_losses}
use Rattle.watching.proofs.Losing.{collected, collects_more, losses_add_up}
use Rattle.watching.proofs.update_losses.losses.Goals as goal

pub returns-clause-parts : goal.returns-clause-parts
returns-clause-parts c = λ f stands few.
    let i = c.args.robot in
    collected f i c.new-found.result c.add_hurts.new.self
    (c.new-found.ensures.left ∙ ap (λ n. 100 - n) (c.damage.ensures.stands f stands)) c.new-found.ensures.none
    (collects_more c.new-found.result c.add_knocks.new.self c.add_hurts.new.self (wall_losses f i ++ knocks f i)
    (hurts f i)
    (collects_more c.new-found.result c.add_walls.new.self c.add_knocks.new.self (wall_losses f i) (knocks f i)
    (c.add_walls.ensures f stands) (c.add_knocks.ensures f stands)) (c.add_hurts.ensures.hurts f stands)) few
    (c.add_hurts.ensures.few f stands)

pub returns-clause-add_up : goal.returns-clause-add_up
returns-clause-add_up c = λ f stands few.
    rw (returns-clause-parts c f stands few)
    (losses_add_up f c.args.robot
    (omega (arith, c.requires, ap length stands.robots, length-map f.robots robot_of))
    (c.damage_adds_up.ensures f stands))
