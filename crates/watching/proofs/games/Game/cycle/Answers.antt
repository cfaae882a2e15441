use Rattle.std.proofs.Common.{◌+◌, length, ◌++◌}
use Rattle.battles.specs.Battle.{state_after, turns}
use Rattle.watching.specs.Sights.{turns_sights, update_sights}
use Rattle.watching.proofs.Telling.{cycle_is, two_told}
use Rattle.watching.proofs.games.Game.cycle.Goals as goal

pub returns-clause-told : goal.returns-clause-told
returns-clause-told g c = λ robots s sights are come told.
    let n = c.args.self.now.ending.cycles in
    let now = state_after robots s n in
    let turned = c.take_turns.ensures.turns.battle robots s are come in
    let field = (turns robots (length robots) now).field in
    rw (cycle_is robots (n + 1) now)
    (two_told (g.W.Watcher.told c.end_cycle.new.watcher) sights (turns_sights robots (n + 1) now (length robots))
    (update_sights (n + 1) field)
    (rw c.take_turns.ensures.turns.ending at (c.end_cycle.ensures.told
    (turns robots (length robots) (state_after robots s c.take_turns.new.self.ending.cycles)).field
    (sights ++ turns_sights robots (n + 1) now (length robots)) turned.played.field
    (c.take_turns.ensures.told robots s sights are come told))))
