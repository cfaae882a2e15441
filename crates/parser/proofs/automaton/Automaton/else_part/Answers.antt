use Rattle.std.proofs.Common.{◌≡◌, false, arith}
use Rattle.tokens.specs.declared.located_tokens.Keyword.TheVariants as keyword
use Rattle.grammar.specs.Grammar.{Decide, is_keyword}
use Rattle.parser.specs.ScopedCursors.{token_of}
use Rattle.parser.proofs.Passing.{passed_on}
use Rattle.parser.proofs.AutomatonLaws.{comes_to, refuses}
use Rattle.parser.proofs.PathLaws.{closed, made, may, told_more, out_of_memory}
use Rattle.parser.proofs.StatementSteps.{no_else_path}
use Rattle.parser.proofs.automaton.Automaton.else_part.Goals as goal

pub act-requires : goal.act-requires
act-requires g c =
    let h = c.requires.at.is in
    let other : is_keyword keyword.Else (token_of c.args.self.now.tokens) ≡ false = cc in
    record { follows = may h.acts h.told h.new (made Decide tt (no_else_path other h.path)) }

pub returns-in_err-act-clause-moves : goal.returns-in_err-act-clause-moves
returns-in_err-act-clause-moves g c =
    rw (passed_on c.from_residual.result c.from_residual.ensures.1) (λ o h.
    out_of_memory h.path (refuses c.in_err-act.field-0.0 _ c.in_err-act.ensures.judged))

pub returns-clause-moves : goal.returns-clause-moves
returns-clause-moves g c =
    let other : is_keyword keyword.Else (token_of c.args.self.now.tokens) ≡ false = cc in
    λ o h.
    comes_to h (closed (made Decide tt (no_else_path other h.path))) (told_more _ _ c.in_ok-act.ensures.ok h.told)
    (omega (arith, h.depth)) (omega (arith, h.few)) (record { level = 0; takes = h.fits.takes.1; ends = tt })
