use Rattle.std.proofs.Common.{refl}
use Rattle.parser.proofs.AutomatonLaws.{awaits, comes_to}
use Rattle.parser.proofs.StatementSteps.{evaluation_path}
use Rattle.parser.proofs.automaton.Automaton.evaluation.Goals as goal

pub returns-clause-moves : goal.returns-clause-moves
returns-clause-moves g c = λ o h.
    rw c.push.ensures
    (comes_to h (evaluation_path c.requires.starts h.path) h.told h.depth h.few (awaits (refl, h.fits) tt))
