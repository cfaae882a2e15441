use Rattle.std.proofs.Common.{◌≡◌, true, false, ◌&&◌, nat_lt, sym, ap, ◌∙◌}
use Rattle.arena.specs.Leg.{tried, hits_wall}
use Rattle.arena.specs.Field.{is_alive}
use Rattle.arena.specs.Arena.{Robot, robot_of}
use Rattle.arena.proofs.robots.Robot.meets_wall.Goals as goal

pub returns-then-is_alive : goal.returns-then-is_alive
unfolding robot_of is_alive
returns-then-is_alive c = λ robot e.
    let live : is_alive robot ≡ true =
    sym (c.is_alive.ensures ∙ ap (λ (b : Robot). nat_lt b.damage 100) e) ∙ c.if-is_alive.true in
    c.move_within_walls.ensures.walled robot.leg (ap (λ (b : Robot). b.motion) (c.self.view_is ∙ e)) ∙
    sym (ap (λ t. t && hits_wall (tried robot.leg)) live)

pub returns-else-is_alive : goal.returns-else-is_alive
unfolding robot_of is_alive
returns-else-is_alive c = λ robot e.
    let dead : is_alive robot ≡ false =
    sym (c.is_alive.ensures ∙ ap (λ (b : Robot). nat_lt b.damage 100) e) ∙ c.if-is_alive.false in
    c.if-is_alive.false ∙ sym (ap (λ t. t && hits_wall (tried robot.leg)) dead)
