use Rattle.std.proofs.Common.{◌≡◌, [], ◌∷◌, ◌∙◌, refl, true, false}
use Rattle.tokens.specs.declared.located_tokens.Keyword.TheVariants as keyword
use Rattle.grammar.specs.Grammar.{AKeyword, Part, Types, is_keyword}
use Rattle.parser.proofs.Passing.{passed_on}
use Rattle.parser.proofs.Advances.{kept_then, on}
use Rattle.parser.proofs.ListLaws.{goes_on, leaves, opens_on, types_end, types_more}
use Rattle.parser.proofs.ListPaths.{given}
use Rattle.parser.proofs.name_lists.type_words.Goals as goal

pub loop-parser-preserved : goal.loop-parser-preserved
loop-parser-preserved g c =
    let is : is_keyword keyword.Type c.loop-parser.parser.position.lookahead.cursor.next.token ≡ true = cc in
    record {
      matches =
          λ depth. goes_on depth (Part Types ∷ []) (AKeyword keyword.Type ∷ []) [] (Part Types ∷ []) _ _ _
          (λ stack. refl)
          (opens_on depth (Part Types ∷ []) Types (AKeyword keyword.Type ∷ Part Types ∷ []) _ _
          c.loop-parser.invariant.kept.ready.sound (types_more _ is)
          (c.loop-parser.invariant.matches depth))
          (c.in_ok-expect_type.ensures.matches depth);
      scope = c.in_ok-expect_type.ensures.scope ∙ c.loop-parser.invariant.scope;
      passed = λ o below values acts path. c.in_ok-expect_type.ensures.passes o _ _ _
          (given Types (AKeyword keyword.Type ∷ Part Types ∷ []) (types_more _ is) refl
          (c.loop-parser.invariant.passed o below values acts path));
      kept = kept_then _ _ _ c.loop-parser.invariant.kept (on _ _ c.in_ok-expect_type.ensures.kept);
    }

pub returns-in_err-expect_type-clause-matches : goal.returns-in_err-expect_type-clause-matches
returns-in_err-expect_type-clause-matches g c =
    let is : is_keyword keyword.Type c.loop-parser.parser.position.lookahead.cursor.next.token ≡ true = cc in
    rw (passed_on c.from_residual.result c.from_residual.ensures.1) (leaves _ (Part Types ∷ [])
    (AKeyword keyword.Type ∷ []) (Part Types ∷ []) _ _
    c.in_err-expect_type.field-0.0 (λ stack. refl)
    (λ depth. opens_on depth (Part Types ∷ []) Types (AKeyword keyword.Type ∷ Part Types ∷ []) _ _
    c.loop-parser.invariant.kept.ready.sound
    (types_more _ is)
    (c.loop-parser.invariant.matches depth))
    c.in_err-expect_type.ensures.matches)

pub returns-clause-matches : goal.returns-clause-matches
returns-clause-matches g c depth =
    let other : is_keyword keyword.Type c.loop-parser.parser.position.lookahead.cursor.next.token ≡ false = cc in
    opens_on depth (Part Types ∷ []) Types [] _ _ c.loop-parser.invariant.kept.ready.sound (types_end _ other)
    (c.loop-parser.invariant.matches depth)

pub returns-clause-passes : goal.returns-clause-passes
returns-clause-passes g c =
    let other : is_keyword keyword.Type c.loop-parser.parser.position.lookahead.cursor.next.token ≡ false = cc in
    λ o below values acts path.
    given Types [] (types_end _ other) refl (c.loop-parser.invariant.passed o below values acts path)
