use Rattle.std.proofs.Common.{[], ◌∷◌}
use Rattle.tokens.specs.declared.located_tokens.Punctuator.TheVariants as punctuator
use Rattle.grammar.specs.Grammar.{Exactly, Invoke}
use Rattle.parser.proofs.Passing.{passed_on}
use Rattle.parser.proofs.AutomatonLaws.{operand_stands, refuses}
use Rattle.parser.proofs.PathLaws.{closed, falls, made, may, told_more, out_of_memory}
use Rattle.parser.proofs.TreeLaws.{has_call, valued}
use Rattle.parser.proofs.automaton.Automaton.end_call.Goals as goal

pub returns-in_err-expect-clause-moves : goal.returns-in_err-expect-clause-moves
returns-in_err-expect-clause-moves g c =
    rw (passed_on c.from_residual.result c.from_residual.ensures.1) (λ o h.
    falls (Exactly punctuator.CloseRound ∷ []) _ c.in_err-expect.field-0.0 h.path h.told c.in_err-expect.ensures.kept
    c.in_err-expect.ensures.matches)

pub act-requires : goal.act-requires
act-requires g c =
    let h = c.requires.at.is in
    let y = has_call c.args.callee _ h.values h.fits.trees in
    record {
      follows =
          may h.acts h.told h.new (made Invoke tt (c.in_ok-expect.ensures.passes _ _ _ _ (valued y.is h.path)));
    }

pub returns-in_err-act-clause-moves : goal.returns-in_err-act-clause-moves
returns-in_err-act-clause-moves g c =
    rw (passed_on c.from_residual-in_err-act.result c.from_residual-in_err-act.ensures.1) (λ o h.
    out_of_memory (c.in_ok-expect.ensures.passes _ _ _ _ h.path)
    (refuses c.in_err-act.field-0.0 _ c.in_err-act.ensures.judged))

pub returns-clause-moves : goal.returns-clause-moves
returns-clause-moves g c = λ o h.
    let y = has_call c.args.callee _ h.values h.fits.trees in
    operand_stands h c.args.floor (closed (made Invoke tt (c.in_ok-expect.ensures.passes _ _ _ _ (valued y.is h.path))))
    (told_more _ _ c.in_ok-act.ensures.ok h.told) h.depth h.few
    (record { least = h.fits.least; most = h.fits.most; takes = h.fits.takes; trees = y.below })
