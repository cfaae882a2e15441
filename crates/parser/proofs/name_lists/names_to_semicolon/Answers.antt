use Rattle.std.proofs.Common.{[], ◌∷◌, refl}
use Rattle.tokens.specs.declared.located_tokens.Punctuator.TheVariants as punctuator
use Rattle.grammar.specs.Grammar.{Exactly, More, Part}
use Rattle.parser.specs.Roles.{role_of}
use Rattle.parser.specs.Declarations.{names_items}
use Rattle.parser.proofs.Passing.{passed_on}
use Rattle.parser.proofs.Advances.{kept_then, on, on_then}
use Rattle.parser.proofs.ListLaws.{item_on, leaves, name_first, names_then}
use Rattle.parser.proofs.name_lists.names_to_semicolon.Goals as goal

pub returns-in_err-more_names-clause-matches : goal.returns-in_err-more_names-clause-matches
returns-in_err-more_names-clause-matches g c =
    rw (passed_on c.from_residual-in_err-more_names.result c.from_residual-in_err-more_names.ensures.1) (leaves _
    (names_items c.args.declared) (Part (More (role_of c.args.declared)) ∷ [])
    (Exactly punctuator.Semicolon ∷ []) _ _ c.in_err-more_names.field-0.0 (λ stack. refl)
    (name_first c.args.declared _ _ c.in_ok-expect_declaration.ensures.matches) c.in_err-more_names.ensures.matches)

pub returns-in_err-expect-clause-matches : goal.returns-in_err-expect-clause-matches
returns-in_err-expect-clause-matches g c =
    rw (passed_on c.from_residual-in_err-expect.result c.from_residual-in_err-expect.ensures.1) (leaves _
    (names_items c.args.declared) (Exactly punctuator.Semicolon ∷ []) [] _ _
    c.in_err-expect.field-0.0 (λ stack. refl)
    (names_then c.args.declared _ _ _ c.in_ok-expect_declaration.ensures.matches c.in_ok-more_names.ensures.matches)
    c.in_err-expect.ensures.matches)

pub returns-clause-matches : goal.returns-clause-matches
returns-clause-matches g c =
    item_on (names_items c.args.declared) (Exactly punctuator.Semicolon) [] _ _ _ (λ stack. refl)
    (names_then c.args.declared _ _ _ c.in_ok-expect_declaration.ensures.matches c.in_ok-more_names.ensures.matches)
    c.in_ok-expect.ensures.matches

pub returns-clause-kept : goal.returns-clause-kept
returns-clause-kept g c =
    on_then _ _ _ c.in_ok-expect_declaration.ensures.kept
    (kept_then _ _ _ c.in_ok-more_names.ensures.kept (on _ _ c.in_ok-expect.ensures.kept))

pub returns-clause-passes : goal.returns-clause-passes
returns-clause-passes g c = λ o below values acts path.
    c.in_ok-expect.ensures.passes o _ _ _
    (c.in_ok-more_names.ensures.passes o _ _ _ (c.in_ok-expect_declaration.ensures.passes o _ _ _ path))
