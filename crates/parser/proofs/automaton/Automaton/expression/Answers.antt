use Rattle.parser.proofs.AutomatonLaws.{comes_to, moves_from}
use Rattle.parser.proofs.ExpressionSteps.{plain_path}
use Rattle.parser.proofs.automaton.Automaton.expression.Goals as goal

pub operand-requires : goal.operand-requires
operand-requires g c =
    let h = c.requires.at.is in
    record {
      at = record {
        start = c.requires.at.start;
        is = comes_to h (plain_path c.in-None.ensures.none h.path) h.told h.depth h.few h.fits;
      };
    }

pub returns-in-None-clause-moves : goal.returns-in-None-clause-moves
returns-in-None-clause-moves g c =
    moves_from _ _ _ _ _ _ _ c.operand.result
    (λ o h. comes_to h (plain_path c.in-None.ensures.none h.path) h.told h.depth h.few h.fits) c.operand.ensures.moves
