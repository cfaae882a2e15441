use Rattle.std.proofs.Common.{[], ◌∷◌}
use Rattle.tokens.specs.declared.located_tokens.Keyword.TheVariants as keyword
use Rattle.grammar.specs.Grammar.{AKeyword, Part, Types}
use Rattle.parser.proofs.Passing.{passed_on}
use Rattle.parser.proofs.AutomatonLaws.{comes_to}
use Rattle.parser.proofs.PathLaws.{falls}
use Rattle.parser.proofs.SourceSteps.{typed_path}
use Rattle.parser.proofs.automaton.Automaton.typed_part.Goals as goal

pub returns-in_err-expect_type-clause-moves : goal.returns-in_err-expect_type-clause-moves
returns-in_err-expect_type-clause-moves g c =
    rw (passed_on c.from_residual.result c.from_residual.ensures.1) (λ o h.
    falls (AKeyword keyword.Type ∷ []) _ c.in_err-expect_type.field-0.0 (typed_path c.requires.starts h.path) h.told
    c.in_err-expect_type.ensures.kept
    c.in_err-expect_type.ensures.matches)

pub returns-in_err-type_words-clause-moves : goal.returns-in_err-type_words-clause-moves
returns-in_err-type_words-clause-moves g c =
    rw (passed_on c.from_residual-in_err-type_words.result c.from_residual-in_err-type_words.ensures.1) (λ o h.
    falls (Part Types ∷ []) _ c.in_err-type_words.field-0.0
    (c.in_ok-expect_type.ensures.passes _ _ _ _ (typed_path c.requires.starts h.path)) h.told
    c.in_err-type_words.ensures.kept
    c.in_err-type_words.ensures.matches)

pub returns-clause-moves : goal.returns-clause-moves
returns-clause-moves g c = λ o h.
    comes_to h
    (c.in_ok-type_words.ensures.passes _ _ _ _
    (c.in_ok-expect_type.ensures.passes _ _ _ _ (typed_path c.requires.starts h.path))) h.told h.depth h.few
    h.fits
