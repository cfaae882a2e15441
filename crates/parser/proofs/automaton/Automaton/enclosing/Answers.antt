use Rattle.parser.proofs.AutomatonLaws.{moves_back, put_back}
use Rattle.parser.proofs.automaton.Automaton.enclosing.Goals as goal

pub behind-requires : goal.behind-requires
behind-requires g c = record { at = put_back c.args.self.now _ c.in-Some.ensures.frame c.requires.at }

pub returns-in-Some-clause-moves : goal.returns-in-Some-clause-moves
returns-in-Some-clause-moves g c =
    moves_back _ _ _ _ c.behind.result c.args.self.now _ c.in-Some.ensures.frame c.behind.ensures.moves
