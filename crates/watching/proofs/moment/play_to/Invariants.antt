use Rattle.std.proofs.Common.{◌≡◌, List, length}
use Rattle.battles.specs.Battle.{Behaviour, BattleState}
use Rattle.battles.specs.Carrying.{AreRobotsOf}
use Rattle.watching.specs.Games.{HasCome}
use Rattle.watching.specs.Played.{codes_of, exes_of}
use Rattle.watching.specs.Moments.{last_question}
use Rattle.watching.proofs.moment.play_to.Given as goal

-- n cycles were played of the same match, and this was the last question in them
abbrev pub invariant-loop : goal.invariant-loop
invariant-loop l = record {
  manned : length l.game.arena.robots ≡ length l.pilots;
  pilots : length l.pilots ≡ length l.initial.pilots;
  codes : codes_of l.pilots ≡ codes_of l.initial.pilots;
  limit : l.game.limit ≡ l.initial.game.limit;
  cycles : l.game.ending.cycles ≡ l.counter;
  battle : (robots : List Behaviour) (s : BattleState) → AreRobotsOf (exes_of (codes_of l.initial.pilots)) robots
      → HasCome (codes_of l.initial.pilots) robots s l.initial.pilots l.initial.game
      → HasCome (codes_of l.initial.pilots) robots s l.pilots l.game;
  asked : (robots : List Behaviour) (s : BattleState) → AreRobotsOf (exes_of (codes_of l.initial.pilots)) robots
      → HasCome (codes_of l.initial.pilots) robots s l.initial.pilots l.initial.game
      → l.last ≡ last_question robots l.robot s l.counter;
}
