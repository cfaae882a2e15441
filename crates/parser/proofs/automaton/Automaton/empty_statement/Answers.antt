use Rattle.tokens.specs.declared.located_tokens.Punctuator.TheVariants as punctuator
use Rattle.grammar.specs.Grammar.{Exactly}
use Rattle.parser.proofs.Passing.{passed_on}
use Rattle.parser.proofs.AutomatonLaws.{comes_to}
use Rattle.parser.proofs.PathLaws.{token_falls, token_past}
use Rattle.parser.proofs.StatementSteps.{empty_path}
use Rattle.parser.proofs.automaton.Automaton.empty_statement.Goals as goal

pub returns-in_err-advance-clause-moves : goal.returns-in_err-advance-clause-moves
returns-in_err-advance-clause-moves g c =
    rw (passed_on c.from_residual.result c.from_residual.ensures.1) (λ o h.
    token_falls (Exactly punctuator.Semicolon) c.requires.starts h.told c.in_err-advance.ensures.kept
    c.in_err-advance.ensures.consumes (empty_path c.requires.starts h.path))

pub returns-clause-moves : goal.returns-clause-moves
returns-clause-moves g c = λ o h.
    comes_to h
    (token_past (Exactly punctuator.Semicolon) c.requires.starts c.in_ok-advance.ensures.consumes
    c.in_ok-advance.ensures.kept (empty_path c.requires.starts h.path)) h.told h.depth h.few
    (record { level = 0; takes = h.fits; ends = tt })
