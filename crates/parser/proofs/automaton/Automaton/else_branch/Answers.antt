use Rattle.std.proofs.Common.{refl}
use Rattle.tokens.specs.declared.located_tokens.Keyword.TheVariants as keyword
use Rattle.grammar.specs.Grammar.{AKeyword, Empty}
use Rattle.parser.proofs.Passing.{passed_on}
use Rattle.parser.proofs.AutomatonLaws.{comes_to, refuses}
use Rattle.parser.proofs.PathLaws.{made, may, out_of_memory, token_falls, token_past, told_more}
use Rattle.parser.proofs.StatementSteps.{else_path}
use Rattle.parser.proofs.automaton.Automaton.else_branch.Goals as goal

pub returns-in_err-advance-clause-moves : goal.returns-in_err-advance-clause-moves
returns-in_err-advance-clause-moves g c =
    rw (passed_on c.from_residual.result c.from_residual.ensures.1) (λ o h.
    token_falls (AKeyword keyword.Else) c.requires.starts h.told c.in_err-advance.ensures.kept
    c.in_err-advance.ensures.consumes
    (else_path c.requires.starts h.path))

pub act-requires : goal.act-requires
act-requires g c =
    let h = c.requires.at.is in
    record {
      follows =
          may h.acts h.told h.new (made Empty tt (token_past (AKeyword keyword.Else) c.requires.starts
          c.in_ok-advance.ensures.consumes
          c.in_ok-advance.ensures.kept (else_path c.requires.starts h.path)));
    }

pub returns-in_err-act-clause-moves : goal.returns-in_err-act-clause-moves
returns-in_err-act-clause-moves g c =
    rw (passed_on c.from_residual-in_err-act.result c.from_residual-in_err-act.ensures.1) (λ o h.
    out_of_memory
    (token_past (AKeyword keyword.Else) c.requires.starts c.in_ok-advance.ensures.consumes c.in_ok-advance.ensures.kept
    (else_path c.requires.starts h.path)) (refuses c.in_err-act.field-0.0 _ c.in_err-act.ensures.judged))

pub returns-clause-moves : goal.returns-clause-moves
returns-clause-moves g c = λ o h.
    rw c.push.ensures (comes_to h
    (made Empty tt (token_past (AKeyword keyword.Else) c.requires.starts c.in_ok-advance.ensures.consumes
    c.in_ok-advance.ensures.kept (else_path c.requires.starts h.path)))
    (told_more _ _ c.in_ok-act.ensures.ok h.told) h.depth h.few (refl, h.fits.takes.1))
