use Rattle.std.proofs.Common.{◌+◌, ◌%◌, ap}
use Rattle.std.specs.Prelude.{nat_eq}
use Rattle.battles.specs.Battle.{is_due}
use Rattle.watching.specs.Games.{Game}
use Rattle.watching.proofs.games.Game.is_update_due.Goals as goal

pub returns : goal.returns
unfolding is_due
returns c = ap (λ (game : Game). nat_eq ((game.ending.cycles + 1) % 15) 0) c.self.view_is
