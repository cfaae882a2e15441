use Rattle.std.proofs.Common.{◌++◌, ◌∷◌, []}
use Rattle.arena.specs.Moved.{moved}
use Rattle.watching.specs.Sights.{Updated, Updates}
use Rattle.watching.proofs.Telling.{two_told}
use Rattle.watching.proofs.games.decides.Goals as goal

pub returns-clause-told : goal.returns-clause-told
returns-clause-told g c = λ f sights stands told.
    two_told (g.W.Watcher.told c.updated.new.self) sights (Updates c.args.cycle f ∷ [])
    (Updated c.args.cycle (moved f) ∷ [])
    (c.updated.ensures.told (sights ++ Updates c.args.cycle f ∷ []) (moved f) (c.update.ensures.stands f stands)
    (c.updates.ensures.told sights f stands told))
