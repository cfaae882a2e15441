use Rattle.std.proofs.Common.{◌≡◌, ◌+◌, ◌∙◌, ◌++◌, ap, false, refl, subst, sym}
use Rattle.arena.specs.Representing.{RepresentsField}
use Rattle.watching.specs.Games.{Game, HaveTakenTurns, IsCounted}
use Rattle.watching.specs.contracts.games.Game.{the_view}
use Rattle.watching.specs.Sights.{update_sights}
use Rattle.watching.proofs.Playing.{comes_on}
use Rattle.watching.proofs.games.Game.end_cycle.Goals as goal

pub returns-clause-battle : goal.returns-clause-battle
returns-clause-battle g c = λ codes robots s seats turned.
    let old = the_view c.self.inside in
    let before : HaveTakenTurns codes robots s seats old = rw c.self.view_is turned in
    let on : old.ending.is_over ≡ false =
    ap (λ (g : Game). g.ending.is_over) c.self.view_is ∙ c.requires in
    let counted : IsCounted old = c.self.invariant.0 in
    comes_on codes robots s seats old (the_view (record {
      arena = c.update_after-is_decided.new.arena;
      ending = record { cycles = old.ending.cycles + 1; is_over = c.is_last_of_match.result };
      limit = old.limit;
    })) c.update_after-is_decided.result (counted.goes_on on) on refl refl c.is_last_of_match.ensures
    (c.update_after-is_decided.ensures.battle codes robots s seats old.ending.cycles refl) before

pub returns-clause-told : goal.returns-clause-told
returns-clause-told g c = λ f sights stands told.
    let here : RepresentsField (the_view c.self.inside).arena f =
    subst (λ (game : Game). RepresentsField game.arena f) (sym c.self.view_is) stands in
    subst (λ (game : Game). g.W.Watcher.told c.update_after-is_decided.new.watcher
    (sights ++ update_sights (game.ending.cycles + 1) f)) c.self.view_is
    (c.update_after-is_decided.ensures.told f sights here told)
