use Rattle.std.proofs.Common.{◌≡◌, List, Some, length}
use Rattle.std.specs.Prelude.{slice_get}
use Rattle.battles.specs.Battle.{Behaviour, BattleState}
use Rattle.battles.specs.Carrying.{AreRobotsOf}
use Rattle.code.specs.Generation.{Program}
use Rattle.watching.specs.Games.{HasCome}
use Rattle.watching.specs.Played.{codes_of, exes_of}
use Rattle.watching.specs.Searches.{Happens}
use Rattle.watching.proofs.Searching.{NoneIn}
use Rattle.watching.proofs.searches.next_in.Given as goal

-- n cycles of the same match were played, and nothing was found later than the one
abbrev pub invariant-loop : goal.invariant-loop
invariant-loop l = record {
  manned : length l.game.arena.robots ≡ length l.pilots;
  pilots : length l.pilots ≡ length l.initial.pilots;
  codes : codes_of l.pilots ≡ codes_of l.initial.pilots;
  limit : l.game.limit ≡ l.initial.game.limit;
  cycles : l.game.ending.cycles ≡ l.counter;
  battle : (robots : List Behaviour) (s : BattleState) → AreRobotsOf (exes_of (codes_of l.initial.pilots)) robots
      → HasCome (codes_of l.initial.pilots) robots s l.initial.pilots l.initial.game
      → HasCome (codes_of l.initial.pilots) robots s l.pilots l.game;
  none : (robots : List Behaviour) (s : BattleState) (program : Program)
      → AreRobotsOf (exes_of (codes_of l.initial.pilots)) robots
      → slice_get (codes_of l.initial.pilots) l.robot ≡ Some program
      → HasCome (codes_of l.initial.pilots) robots s l.initial.pilots l.initial.game
      → NoneIn (Happens robots program s l.robot l.sought) l.after l.counter;
}
