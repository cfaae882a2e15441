use Rattle.std.proofs.Common.{◌+◌, ◌++◌, length, subst}
use Rattle.battles.specs.Battle.{state_after}
use Rattle.watching.specs.Games.{Game, HasCome}
use Rattle.watching.specs.Played.{codes_of}
use Rattle.watching.specs.Sights.{turns_sights}
use Rattle.watching.specs.contracts.games.Game.{the_view}
use Rattle.watching.proofs.games.Game.take_turns.Goals as goal

pub returns-clause-turns : goal.returns-clause-turns
returns-clause-turns g c =
    let codes = codes_of c.args.pilots.now in
    let old = the_view c.self.inside in
    record {
      battle = λ robots s are come.
          let came : HasCome codes robots s c.args.pilots.now old = rw c.self.view_is come in
          record {
            played = c.turns.ensures.state robots (state_after robots s old.ending.cycles) are came.played;
            ends = came.ends;
          };
      codes = c.turns.ensures.codes;
      ending = search;
      limit = search;
    }

pub returns-clause-told : goal.returns-clause-told
returns-clause-told g c = λ robots s sights are come told.
    let codes = codes_of c.args.pilots.now in
    let old = the_view c.self.inside in
    let came : HasCome codes robots s c.args.pilots.now old = rw c.self.view_is come in
    subst (λ (game : Game). g.W.Watcher.told c.turns.new.watcher
    (sights ++ turns_sights robots (game.ending.cycles + 1) (state_after robots s game.ending.cycles) (length robots)))
    c.self.view_is
    (c.turns.ensures.told robots (state_after robots s old.ending.cycles) sights are came.played told)
