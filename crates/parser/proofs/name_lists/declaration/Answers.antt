use Rattle.std.proofs.Common.{[], ◌∷◌, refl}
use Rattle.grammar.specs.Grammar.{Part, Types}
use Rattle.parser.specs.Declarations.{declaration_items, names_items}
use Rattle.parser.proofs.Passing.{passed_on}
use Rattle.parser.proofs.Advances.{handed_kept, kept_then, on}
use Rattle.parser.proofs.ListLaws.{handed_on, leaves, type_first, types_then}
use Rattle.parser.proofs.ListPaths.{on_ok}
use Rattle.parser.proofs.name_lists.declaration.Goals as goal

pub returns-in_err-type_words-clause-matches : goal.returns-in_err-type_words-clause-matches
returns-in_err-type_words-clause-matches g c =
    rw (passed_on c.from_residual-in_err-type_words.result c.from_residual-in_err-type_words.ensures.1) (leaves _
    (declaration_items c.args.declared) (Part Types ∷ []) (names_items c.args.declared) _ _
    c.in_err-type_words.field-0.0 (λ stack. refl)
    (type_first c.args.declared _ _ c.in_ok-expect_type.ensures.matches) c.in_err-type_words.ensures.matches)

pub returns-clause-matches : goal.returns-clause-matches
returns-clause-matches g c =
    handed_on c.names_to_semicolon.result (declaration_items c.args.declared) (names_items c.args.declared) _ _ _
    (types_then c.args.declared _ _ _ c.in_ok-expect_type.ensures.matches c.in_ok-type_words.ensures.matches)
    c.names_to_semicolon.ensures.matches

pub returns-clause-kept : goal.returns-clause-kept
returns-clause-kept g c =
    handed_kept c.names_to_semicolon.result _ _ _
    (kept_then _ _ _ (on _ _ c.in_ok-expect_type.ensures.kept) c.in_ok-type_words.ensures.kept)
    c.names_to_semicolon.ensures.kept

pub returns-clause-passes : goal.returns-clause-passes
returns-clause-passes g c =
    on_ok c.names_to_semicolon.result (λ passes o below values acts path.
    passes o below values acts
    (c.in_ok-type_words.ensures.passes o _ _ _ (c.in_ok-expect_type.ensures.passes o _ _ _ path)))
    c.names_to_semicolon.ensures.passes
