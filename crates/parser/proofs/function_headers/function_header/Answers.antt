use Rattle.std.proofs.Common.{[], ◌∷◌, refl}
use Rattle.tokens.specs.declared.located_tokens.Punctuator.TheVariants as punctuator
use Rattle.grammar.specs.Grammar.{Exactly, ParameterTypes, Parameters, Part}
use Rattle.parser.specs.Declarations.{header_items}
use Rattle.parser.proofs.Passing.{passed_on}
use Rattle.parser.proofs.HeaderLaws.{heading_closed, heading_listed, heading_named, heading_open}
use Rattle.parser.proofs.Advances.{kept_then, on, on_then}
use Rattle.parser.proofs.ListLaws.{item_on, leaves}
use Rattle.parser.proofs.function_headers.function_header.Goals as goal

pub returns-in_err-expect-clause-matches : goal.returns-in_err-expect-clause-matches
returns-in_err-expect-clause-matches g c =
    rw (passed_on c.from_residual-in_err-expect.result c.from_residual-in_err-expect.ensures.1) (leaves _ header_items
    (Exactly punctuator.OpenRound ∷ [])
    (Part Parameters ∷ Exactly punctuator.CloseRound ∷ Part ParameterTypes ∷ []) _ _ c.in_err-expect.field-0.0
    (λ stack. refl)
    (heading_named _ _ c.in_ok-number.ensures.matches) c.in_err-expect.ensures.matches)

pub returns-in_err-parameter_list-clause-matches : goal.returns-in_err-parameter_list-clause-matches
returns-in_err-parameter_list-clause-matches g c =
    rw (passed_on c.from_residual-in_err-parameter_list.result c.from_residual-in_err-parameter_list.ensures.1) (leaves
    _ header_items (Part Parameters ∷ [])
    (Exactly punctuator.CloseRound ∷ Part ParameterTypes ∷ []) _ _ c.in_err-parameter_list.field-0.0 (λ stack. refl)
    (heading_open _ _ _ c.in_ok-number.ensures.matches c.in_ok-expect.ensures.matches)
    c.in_err-parameter_list.ensures.matches)

pub returns-in_err-expect-2-clause-matches : goal.returns-in_err-expect-2-clause-matches
returns-in_err-expect-2-clause-matches g c =
    rw (passed_on c.from_residual-in_err-expect-2.result c.from_residual-in_err-expect-2.ensures.1) (leaves _
    header_items (Exactly punctuator.CloseRound ∷ []) (Part ParameterTypes ∷ []) _ _
    c.in_err-expect-2.field-0.0 (λ stack. refl)
    (heading_listed _ _ _ _ c.in_ok-number.ensures.matches c.in_ok-expect.ensures.matches
    c.in_ok-parameter_list.ensures.matches) c.in_err-expect-2.ensures.matches)

pub returns-in_err-declarations-clause-matches : goal.returns-in_err-declarations-clause-matches
returns-in_err-declarations-clause-matches g c =
    rw (passed_on c.from_residual-in_err-declarations.result c.from_residual-in_err-declarations.ensures.1) (leaves _
    header_items (Part ParameterTypes ∷ []) [] _ _ c.in_err-declarations.field-0.0
    (λ stack. refl)
    (heading_closed _ _ _ _ _ c.in_ok-number.ensures.matches c.in_ok-expect.ensures.matches
    c.in_ok-parameter_list.ensures.matches c.in_ok-expect-2.ensures.matches) c.in_err-declarations.ensures.matches)

pub returns-clause-matches : goal.returns-clause-matches
returns-clause-matches g c =
    item_on header_items (Part ParameterTypes) [] _ _ _ (λ stack. refl)
    (heading_closed _ _ _ _ _ c.in_ok-number.ensures.matches c.in_ok-expect.ensures.matches
    c.in_ok-parameter_list.ensures.matches c.in_ok-expect-2.ensures.matches) c.in_ok-declarations.ensures.matches

pub returns-clause-kept : goal.returns-clause-kept
returns-clause-kept g c =
    on_then _ _ _ c.in_ok-number.ensures.kept
    (kept_then _ _ _ (on _ _ c.in_ok-expect.ensures.kept)
    (kept_then _ _ _ c.in_ok-parameter_list.ensures.kept
    (kept_then _ _ _ (on _ _ c.in_ok-expect-2.ensures.kept) c.in_ok-declarations.ensures.kept)))

pub returns-clause-passes : goal.returns-clause-passes
returns-clause-passes g c = λ o below values acts path.
    c.in_ok-declarations.ensures.passes o _ _ _
    (c.in_ok-expect-2.ensures.passes o _ _ _
    (c.in_ok-parameter_list.ensures.passes o _ _ _
    (c.in_ok-expect.ensures.passes o _ _ _ (c.in_ok-number.ensures.passes o _ _ _ path))))
