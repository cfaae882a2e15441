use Rattle.std.proofs.Common.{◌≡◌, ◌-◌, ◌++◌, List, length}
use Rattle.battles.specs.Battle.{Behaviour, BattleState}
use Rattle.battles.specs.Carrying.{AreRobotsOf}
use Rattle.watching.specs.Games.{EndsWell, HasCome}
use Rattle.watching.specs.Played.{codes_of, exes_of}
use Rattle.watching.specs.Sights.{Sight, sights_of}
use Rattle.watching.proofs.games.play_on.Given as goal

-- some cycles were played of the same match, and the watcher was told of them
abbrev pub invariant-loop-game : goal.invariant-loop-game
invariant-loop-game g l = record {
  manned : length l.game.arena.robots ≡ length l.pilots;
  codes : codes_of l.pilots ≡ codes_of l.initial.pilots;
  limit : l.game.limit ≡ l.initial.game.limit;
  ends : EndsWell l.game;
  battle : (robots : List Behaviour) (s : BattleState) → AreRobotsOf (exes_of (codes_of l.initial.pilots)) robots
      → HasCome (codes_of l.initial.pilots) robots s l.initial.pilots l.initial.game
      → HasCome (codes_of l.initial.pilots) robots s l.pilots l.game;
  kept : g.W.Watcher.keeps l.watcher ≡ g.W.Watcher.keeps l.initial.watcher;
  told : (robots : List Behaviour) (s : BattleState) (sights : List Sight)
      → AreRobotsOf (exes_of (codes_of l.initial.pilots)) robots
      → HasCome (codes_of l.initial.pilots) robots s l.initial.pilots l.initial.game
      → g.W.Watcher.told l.initial.watcher sights
      → g.W.Watcher.told l.watcher (sights ++ sights_of robots s l.game.ending.cycles);
}

abbrev pub decreases-loop-game : goal.decreases-loop-game
decreases-loop-game g l = l.game.limit - l.game.ending.cycles
