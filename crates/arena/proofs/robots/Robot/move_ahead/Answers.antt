use Rattle.std.proofs.Common.{sym, ◌∙◌, arith}
use Rattle.arena.proofs.RobotUpdates.{dead_stays, goes_ahead, life_is}
use Rattle.arena.proofs.robots.Robot.move_ahead.Goals as goal

pub returns-then-not-is_alive-clause-ahead : goal.returns-then-not-is_alive-clause-ahead
returns-then-not-is_alive-clause-ahead c = λ robot e.
    e ∙ sym (dead_stays robot (life_is robot c.is_alive.ensures e c.if-not-is_alive.true))

pub returns-then-move_within_walls-clause-ahead : goal.returns-then-move_within_walls-clause-ahead
returns-then-move_within_walls-clause-ahead c = λ robot e.
    goes_ahead robot (c.self.view_is ∙ e) (life_is robot c.is_alive.ensures e c.if-not-is_alive.false)
    c.move_within_walls.ensures.motion c.move_within_walls.ensures.walled c.if-move_within_walls.true (omega arith)

pub returns-else-move_within_walls-clause-ahead : goal.returns-else-move_within_walls-clause-ahead
returns-else-move_within_walls-clause-ahead c = λ robot e.
    goes_ahead robot (c.self.view_is ∙ e) (life_is robot c.is_alive.ensures e c.if-not-is_alive.false)
    c.move_within_walls.ensures.motion c.move_within_walls.ensures.walled c.if-move_within_walls.false (omega arith)
