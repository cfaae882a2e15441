use Rattle.std.proofs.Common.{◌∙◌, ap, nat_lt}
use Rattle.arena.specs.Field.{is_alive, is_live_at}
use Rattle.arena.specs.Arena.{Robot, robot_of, is_live}
use Rattle.arena.proofs.arenas.Arena.alive.Goals as goal

pub returns-clause-lives : goal.returns-clause-lives
unfolding is_live
returns-clause-lives c = c.is_alive.ensures ∙ ap (λ (b : Robot). nat_lt b.damage 100) c.robot.ensures.value

pub returns-clause-stands : goal.returns-clause-stands
unfolding is_live_at is_alive robot_of
returns-clause-stands c =
    λ f s. c.is_alive.ensures ∙ ap (λ (b : Robot). nat_lt b.damage 100) (c.robot.ensures.stands f s)
