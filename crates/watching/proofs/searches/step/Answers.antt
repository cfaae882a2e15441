use Rattle.std.proofs.Common.{◌∙◌, ap}
use Rattle.watching.specs.declared.games.PlayEnd.{PlayEnd}
use Rattle.watching.specs.Searches.{Happens}
use Rattle.watching.proofs.Searching.{found_so}
use Rattle.watching.proofs.searches.step.Goals as goal

pub returns-clause-found : goal.returns-clause-found
returns-clause-found c = λ robots s code are here come.
    rw c.found_behind.ensures
    (found_so (Happens robots code s c.args.robot c.args.sought.now) c.args.game.now.ending.cycles
    c.ending.result.cycles
    c.args.after c.happens-happens.result
    (ap (λ (ending : PlayEnd). ending.cycles) c.ending.ensures.ending ∙ c.happens-happens.ensures.next.cycles)
    (c.happens-happens.ensures.yes robots s code are here come) (c.happens-happens.ensures.no robots s code are here
    come))
