use Rattle.arena.proofs.Touches.{touches_is}
use Rattle.arena.proofs.collisions.robot_collision_count.Goals as goal

pub returns-clause-value : goal.returns-clause-value
returns-clause-value c =
    touches_is c.args.movers.now c.args.robot c.index-movers-robot.result c.collision_count.result
    c.collision_count-2.result c.requires
    c.index-movers-robot.is c.collision_count.ensures c.collision_count-2.ensures
