use Rattle.std.proofs.Common.{◌≡◌, [], ◌∷◌, refl, subst, true, false}
use Rattle.tokens.specs.declared.located_tokens.Punctuator.TheVariants as punctuator
use Rattle.grammar.specs.Grammar.{AName, Exactly, More, Part, is_punctuator}
use Rattle.grammar.specs.Scope.{Scope}
use Rattle.parser.specs.Defining.{StaysAt}
use Rattle.parser.specs.Roles.{role_of}
use Rattle.parser.proofs.Passing.{passed_on}
use Rattle.parser.proofs.Names.{stays_at_then}
use Rattle.parser.specs.ScopedCursors.{scope_of}
use Rattle.parser.proofs.Advances.{kept_then, on}
use Rattle.parser.proofs.ListLaws.{goes_on, leaves, more_behind, names_end, opens_on, names_more}
use Rattle.parser.proofs.ListPaths.{given}
use Rattle.parser.proofs.name_lists.more_names.Goals as goal

pub returns-in_err-expect-clause-matches : goal.returns-in_err-expect-clause-matches
returns-in_err-expect-clause-matches g c =
    let is : is_punctuator punctuator.Comma c.loop-declared.parser.position.lookahead.cursor.next.token ≡ true = cc in
    rw (passed_on c.from_residual.result c.from_residual.ensures.1) (leaves _
    (Part (More (role_of c.args.declared)) ∷ []) (Exactly punctuator.Comma ∷ [])
    (AName (role_of c.args.declared) ∷ Part (More (role_of c.args.declared)) ∷ []) _ _ c.in_err-expect.field-0.0
    (λ stack. refl)
    (λ depth. opens_on depth _ (More (role_of c.args.declared))
    (Exactly punctuator.Comma ∷ AName (role_of c.args.declared) ∷ Part (More (role_of c.args.declared)) ∷ []) _ _
    c.loop-declared.invariant.kept.ready.sound (names_more _ _ is) (c.loop-declared.invariant.matches depth))
    c.in_err-expect.ensures.matches)

pub loop-declared-preserved : goal.loop-declared-preserved
loop-declared-preserved g c =
    let is : is_punctuator punctuator.Comma c.loop-declared.parser.position.lookahead.cursor.next.token ≡ true = cc in
    record {
      matches =
          λ depth. goes_on depth _ (AName (role_of c.args.declared) ∷ []) []
          (Part (More (role_of c.args.declared)) ∷ []) _ _ _ (λ stack. refl)
          (more_behind depth (role_of c.args.declared) _ _ _ c.loop-declared.invariant.kept.ready.sound is
          (c.loop-declared.invariant.matches depth)
          (c.in_ok-expect.ensures.matches depth))
          (c.in_ok-expect_declaration.ensures.matches depth);
      stays = stays_at_then c.args.declared _ _ _ c.loop-declared.invariant.stays
          (subst (λ (s : Scope). StaysAt c.args.declared s (scope_of c.expect_declaration.new.self))
          c.in_ok-expect.ensures.scope
          c.in_ok-expect_declaration.ensures.stays);
      passed = λ o below values acts path. c.in_ok-expect_declaration.ensures.passes o _ _ _
          (c.in_ok-expect.ensures.passes o _ _ _ (given (More (role_of c.args.declared))
          (Exactly punctuator.Comma ∷ AName (role_of c.args.declared) ∷ Part (More (role_of c.args.declared)) ∷ [])
          (names_more _ _ is) refl (c.loop-declared.invariant.passed o below values acts path)));
      kept = kept_then _ _ _ c.loop-declared.invariant.kept
          (kept_then _ _ _ (on _ _ c.in_ok-expect.ensures.kept) (on _ _ c.in_ok-expect_declaration.ensures.kept));
    }

pub returns-in_err-expect_declaration-clause-matches : goal.returns-in_err-expect_declaration-clause-matches
returns-in_err-expect_declaration-clause-matches g c =
    let is : is_punctuator punctuator.Comma c.loop-declared.parser.position.lookahead.cursor.next.token ≡ true = cc in
    rw (passed_on c.from_residual-in_err-expect_declaration.result c.from_residual-in_err-expect_declaration.ensures.1)
    (leaves _ (Part (More (role_of c.args.declared)) ∷ []) (AName (role_of c.args.declared) ∷ [])
    (Part (More (role_of c.args.declared)) ∷ []) _ _ c.in_err-expect_declaration.field-0.0 (λ stack. refl)
    (λ depth. more_behind depth (role_of c.args.declared) _ _ _ c.loop-declared.invariant.kept.ready.sound is
    (c.loop-declared.invariant.matches depth)
    (c.in_ok-expect.ensures.matches depth))
    c.in_err-expect_declaration.ensures.matches)

pub returns-clause-matches : goal.returns-clause-matches
returns-clause-matches g c depth =
    let other : is_punctuator punctuator.Comma c.loop-declared.parser.position.lookahead.cursor.next.token ≡ false =
    cc in
    opens_on depth _ (More (role_of c.args.declared)) [] _ _ c.loop-declared.invariant.kept.ready.sound
    (names_end _ _ other)
    (c.loop-declared.invariant.matches depth)

pub returns-clause-passes : goal.returns-clause-passes
returns-clause-passes g c =
    let other : is_punctuator punctuator.Comma c.loop-declared.parser.position.lookahead.cursor.next.token ≡ false =
    cc in
    λ o below values acts path.
    given (More (role_of c.args.declared)) [] (names_end _ _ other) refl
    (c.loop-declared.invariant.passed o below values acts path)
