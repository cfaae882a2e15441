use Rattle.std.proofs.Common.{◌+◌, [], ◌∷◌, refl, ap, arith}
use Rattle.tokens.specs.declared.located_tokens.Punctuator.TheVariants as punctuator
use Rattle.grammar.specs.Grammar.{Close, Exactly, Expression, Part, Primary}
use Rattle.parser.proofs.Passing.{passed_on}
use Rattle.parser.proofs.AutomatonLaws.{awaits, comes_to, has_room, nests, shallow, under_tails}
use Rattle.parser.proofs.OperandForms.{open_chooses, open_enters}
use Rattle.parser.proofs.OperandSteps.{bracket_path, bracketed_path}
use Rattle.parser.proofs.PathLaws.{token_falls, token_past}
use Rattle.parser.proofs.Productions.{token_too_deep}
use Rattle.parser.proofs.automaton.Automaton.bracket.Goals as goal

pub returns-in_err-check_nesting-clause-moves : goal.returns-in_err-check_nesting-clause-moves
returns-in_err-check_nesting-clause-moves g c =
    rw (passed_on c.from_residual.result c.from_residual.ensures.1) (λ o h.
    nests (bracketed_path c.requires.starts h.path) (under_tails c.args.floor _ c.args.self.now.frames h.depth)
    c.in_err-check_nesting.ensures.refused (λ depth. token_too_deep c.args.self.now.tokens.position _
    h.path.ready.near depth Primary (Exactly punctuator.OpenRound)
    (Part Expression ∷ Exactly punctuator.CloseRound ∷ Close ∷ [])
    (open_chooses c.args.self.now.tokens.position c.requires.starts)
    (open_enters c.args.self.now.tokens.position c.requires.starts)
    c.requires.starts))

pub returns-in_err-advance-clause-moves : goal.returns-in_err-advance-clause-moves
returns-in_err-advance-clause-moves g c =
    rw (passed_on c.from_residual-in_err-advance.result c.from_residual-in_err-advance.ensures.1) (λ o h.
    token_falls (Exactly punctuator.OpenRound) c.requires.starts h.told c.in_err-advance.ensures.kept
    c.in_err-advance.ensures.consumes
    (bracket_path c.requires.starts
    (shallow c.args.floor _ c.args.self.now.frames h.depth c.in_ok-check_nesting.ensures.ok) h.path))

pub push-requires : goal.push-requires
push-requires g c =
    let h = c.requires.at.is in
    has_room _ c.args.floor h.fits.most h.fits.takes (rw h.depth c.in_ok-check_nesting.ensures.ok)

pub returns-clause-moves : goal.returns-clause-moves
returns-clause-moves g c = λ o h.
    rw c.push.ensures (comes_to h
    (token_past (Exactly punctuator.OpenRound) c.requires.starts c.in_ok-advance.ensures.consumes
    c.in_ok-advance.ensures.kept
    (bracket_path c.requires.starts
    (shallow c.args.floor _ c.args.self.now.frames h.depth c.in_ok-check_nesting.ensures.ok) h.path)) h.told
    (ap (λ n. n + 1) (under_tails c.args.floor _ c.args.self.now.frames h.depth))
    (omega (arith, c.in_ok-check_nesting.ensures.ok))
    (awaits (refl, h.fits.least, h.fits.most, h.fits.takes) h.fits.trees))
