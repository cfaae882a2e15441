use Rattle.std.proofs.Common.{◌≡◌, refl, true, false, arith}
use Rattle.tokens.specs.declared.located_tokens.Punctuator.TheVariants as punctuator
use Rattle.grammar.specs.Grammar.{Exactly, is_punctuator}
use Rattle.parser.specs.ScopedCursors.{token_of}
use Rattle.parser.proofs.Passing.{passed_on}
use Rattle.parser.proofs.AutomatonLaws.{comes_to}
use Rattle.parser.proofs.PathLaws.{closed, token_falls, token_past}
use Rattle.parser.proofs.StatementSteps.{no_statement_path, statement_path}
use Rattle.parser.proofs.automaton.Automaton.block.Goals as goal

pub returns-then-not-is_punctuator-clause-moves : goal.returns-then-not-is_punctuator-clause-moves
returns-then-not-is_punctuator-clause-moves g c =
    let other : is_punctuator punctuator.CloseCurly (token_of c.args.self.now.tokens) ≡ false = cc in
    λ o h.
    rw c.push.ensures (comes_to h (statement_path other h.path) h.told h.depth h.few (refl, h.fits.takes.1))

pub returns-in_err-advance-clause-moves : goal.returns-in_err-advance-clause-moves
returns-in_err-advance-clause-moves g c =
    let is : is_punctuator punctuator.CloseCurly (token_of c.args.self.now.tokens) ≡ true = cc in
    rw (passed_on c.from_residual.result c.from_residual.ensures.1) (λ o h.
    token_falls (Exactly punctuator.CloseCurly) is h.told c.in_err-advance.ensures.kept
    c.in_err-advance.ensures.consumes
    (no_statement_path is h.path))

pub returns-clause-moves : goal.returns-clause-moves
returns-clause-moves g c =
    let is : is_punctuator punctuator.CloseCurly (token_of c.args.self.now.tokens) ≡ true = cc in
    λ o h.
    comes_to h
    (closed (token_past (Exactly punctuator.CloseCurly) is c.in_ok-advance.ensures.consumes c.in_ok-advance.ensures.kept
    (no_statement_path is h.path))) h.told (omega (arith, h.depth)) (omega (arith, h.few))
    (record { level = 0; takes = h.fits.takes.1; ends = tt })
