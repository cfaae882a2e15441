use Rattle.arena.specs.Field.{is_live_at, robot_at}
use Rattle.arena.specs.Outlook.{meets_wall}
use Rattle.arena.proofs.arenas.Arena.meets_wall.Goals as goal

pub returns : goal.returns
unfolding meets_wall is_live_at
returns c = λ f s. c.meets_wall.ensures (robot_at f c.args.robot) (c.robot.ensures.stands f s)
