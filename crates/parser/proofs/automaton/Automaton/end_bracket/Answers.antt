use Rattle.std.proofs.Common.{[], ◌∷◌, arith}
use Rattle.tokens.specs.declared.located_tokens.Punctuator.TheVariants as punctuator
use Rattle.grammar.specs.Grammar.{Exactly}
use Rattle.parser.proofs.Passing.{passed_on}
use Rattle.parser.proofs.AutomatonLaws.{closes, operand_stands}
use Rattle.parser.proofs.PathLaws.{closed, falls}
use Rattle.parser.proofs.TreeLaws.{done_at, has_expr, valued}
use Rattle.parser.proofs.automaton.Automaton.end_bracket.Goals as goal

pub returns-in_err-expect-clause-moves : goal.returns-in_err-expect-clause-moves
returns-in_err-expect-clause-moves g c =
    rw (passed_on c.from_residual.result c.from_residual.ensures.1) (λ o h.
    falls (Exactly punctuator.CloseRound ∷ []) _ c.in_err-expect.field-0.0 h.path h.told c.in_err-expect.ensures.kept
    c.in_err-expect.ensures.matches)

pub returns-clause-moves : goal.returns-clause-moves
returns-clause-moves g c = λ o h.
    let x = has_expr _ h.values (done_at 0 h.fits h.fits.takes.0).1 in
    operand_stands h c.args.floor (closed (c.in_ok-expect.ensures.passes _ _ _ _ (valued x.is h.path))) h.told
    (closes c.args.floor _ c.args.self.now.frames h.depth) (omega (arith, h.few))
    (record { least = h.fits.takes.1; most = h.fits.takes.2; takes = h.fits.takes.3; trees = x.below })
