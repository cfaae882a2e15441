use Rattle.std.proofs.Common.{◌≡◌, ◌++◌, List, length}
use Rattle.battles.specs.Battle.{Behaviour, BattleState, turns}
use Rattle.battles.specs.Carrying.{AreRobotsOf}
use Rattle.watching.specs.Played.{HavePlayed, codes_of, exes_of}
use Rattle.watching.specs.Sights.{Sight, turns_sights}
use Rattle.watching.proofs.games.turns.Given as goal

-- the robots so far have had their turns, in a field that has the same robots and did no update
abbrev pub invariant-loop-robot : goal.invariant-loop-robot
invariant-loop-robot g l = record {
  robots : length l.arena.robots ≡ length l.initial.arena.robots;
  updates : l.arena.updates ≡ l.initial.arena.updates;
  codes : codes_of l.pilots ≡ codes_of l.initial.pilots;
  pilots : length l.pilots ≡ length l.initial.pilots;
  state : (robots : List Behaviour) (s : BattleState) → AreRobotsOf (exes_of (codes_of l.initial.pilots)) robots
      → HavePlayed (codes_of l.initial.pilots) l.initial.pilots l.initial.arena s
      → HavePlayed (codes_of l.initial.pilots) l.pilots l.arena (turns robots l.robot s);
  kept : g.W.Watcher.keeps l.watcher ≡ g.W.Watcher.keeps l.initial.watcher;
  told : (robots : List Behaviour) (s : BattleState) (sights : List Sight)
      → AreRobotsOf (exes_of (codes_of l.initial.pilots)) robots
      → HavePlayed (codes_of l.initial.pilots) l.initial.pilots l.initial.arena s
      → g.W.Watcher.told l.initial.watcher sights
      → g.W.Watcher.told l.watcher (sights ++ turns_sights robots l.cycle s l.robot);
}
