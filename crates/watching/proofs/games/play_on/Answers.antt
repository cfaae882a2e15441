use Rattle.std.proofs.Common.{◌∙◌, ◌++◌, refl}
use Rattle.watching.specs.Sights.{sights_of}
use Rattle.watching.proofs.Telling.{cycle_told, none_played, none_told}
use Rattle.watching.proofs.games.play_on.Goals as goal

pub loop-game-init : goal.loop-game-init
loop-game-init g c = record {
  manned = c.requires.manned;
  codes = refl;
  limit = refl;
  ends = c.requires.ends;
  kept = refl;
  battle = λ robots s are come. come;
  told = λ robots s sights are come told.
      rw (c.requires.begins, none_played robots s) (none_told (g.W.Watcher.told c.args.watcher.now) sights told);
}

pub loop-game-preserved : goal.loop-game-preserved
loop-game-preserved g c = record {
  manned = c.cycle.ensures.manned;
  codes = c.cycle.ensures.codes ∙ c.loop-game.invariant.codes;
  limit = c.cycle.ensures.next.limit ∙ c.loop-game.invariant.limit;
  ends = c.cycle.ensures.ends;
  kept = c.cycle.ensures.kept ∙ c.loop-game.invariant.kept;
  battle = λ robots s are come.
      (rw c.loop-game.invariant.codes at (c.cycle.ensures.battle robots s)) are
      (c.loop-game.invariant.battle robots s are come);
  told = λ robots s sights are come told.
      cycle_told (g.W.Watcher.told c.cycle.new.watcher) robots s sights c.loop-game.game.ending.cycles
      c.cycle.new.self.ending.cycles c.cycle.ensures.next.cycles
      ((rw c.loop-game.invariant.codes at
      (c.cycle.ensures.told robots s (sights ++ sights_of robots s c.loop-game.game.ending.cycles))) are
      (c.loop-game.invariant.battle robots s are come) (c.loop-game.invariant.told robots s sights are come told));
}

pub returns-then-not-wants_more-clause-told : goal.returns-then-not-wants_more-clause-told
returns-then-not-wants_more-clause-told g c = λ robots s sights are come told.
    cycle_told (g.W.Watcher.told c.cycle.new.watcher) robots s sights c.loop-game.game.ending.cycles
    c.cycle.new.self.ending.cycles c.cycle.ensures.next.cycles
    ((rw c.loop-game.invariant.codes at
    (c.cycle.ensures.told robots s (sights ++ sights_of robots s c.loop-game.game.ending.cycles))) are
    (c.loop-game.invariant.battle robots s are come) (c.loop-game.invariant.told robots s sights are come told))
