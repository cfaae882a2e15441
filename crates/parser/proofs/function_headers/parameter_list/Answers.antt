use Rattle.std.proofs.Common.{◌≡◌, [], ◌∷◌, ◌∙◌, ap, refl}
use Rattle.tokens.specs.declared.located_tokens.LocatedToken.{LocatedToken}
use Rattle.tokens.specs.declared.located_tokens.Token.TheVariants as token
use Rattle.grammar.specs.Grammar.{AName, More, Parameter, Parameters, Part}
use Rattle.parser.specs.ScopedCursors.{scope_of}
use Rattle.parser.proofs.Passing.{passed_on}
use Rattle.parser.proofs.Advances.{kept_then, on, stays_ready}
use Rattle.parser.proofs.Names.{stays_body}
use Rattle.parser.proofs.HeaderLaws.{no_parameters, parameter_first, parameters_open}
use Rattle.parser.proofs.ListLaws.{item_on, leaves}
use Rattle.parser.proofs.ListPaths.{given}
use Rattle.parser.proofs.HeaderLaws.{parameters_end, parameters_more}
use Rattle.parser.proofs.function_headers.parameter_list.Goals as goal

pub returns-in_err-expect_declaration-clause-matches : goal.returns-in_err-expect_declaration-clause-matches
returns-in_err-expect_declaration-clause-matches g c =
    let is : c.args.parser.now.position.lookahead.cursor.next.token ≡ token.Name c.in-Name.field-0 = cc in
    rw (passed_on c.from_residual.result c.from_residual.ensures.1) (leaves _ (Part Parameters ∷ [])
    (AName Parameter ∷ []) (Part (More Parameter) ∷ []) _ _
    c.in_err-expect_declaration.field-0.0 (λ stack. refl)
    (parameters_open _ c.in-Name.field-0 c.requires.ready.sound is) c.in_err-expect_declaration.ensures.matches)

pub returns-in_err-more_names-clause-matches : goal.returns-in_err-more_names-clause-matches
returns-in_err-more_names-clause-matches g c =
    let is : c.args.parser.now.position.lookahead.cursor.next.token ≡ token.Name c.in-Name.field-0 = cc in
    rw (passed_on c.from_residual-in_err-more_names.result c.from_residual-in_err-more_names.ensures.1) (leaves _
    (Part Parameters ∷ []) (Part (More Parameter) ∷ []) [] _ _ c.in_err-more_names.field-0.0
    (λ stack. refl)
    (parameter_first _ _ c.in-Name.field-0 c.requires.ready.sound is c.in_ok-expect_declaration.ensures.matches)
    c.in_err-more_names.ensures.matches)

pub returns-in_ok-more_names-clause-matches : goal.returns-in_ok-more_names-clause-matches
returns-in_ok-more_names-clause-matches g c =
    let is : c.args.parser.now.position.lookahead.cursor.next.token ≡ token.Name c.in-Name.field-0 = cc in
    item_on (Part Parameters ∷ []) (Part (More Parameter)) [] _ _ _ (λ stack. refl)
    (parameter_first _ _ c.in-Name.field-0 c.requires.ready.sound is c.in_ok-expect_declaration.ensures.matches)
    c.in_ok-more_names.ensures.matches

pub returns-in_default : goal.returns-in_default
returns-in_default g c =
    record {
      matches = no_parameters _ c.requires.ready.sound
          (λ bytes is. c.in_default.not-Name bytes (ap (λ (l : LocatedToken). l.token) c.peek.ensures.value ∙ is));
      passes = λ o below values acts path. given Parameters []
          (parameters_end _ (λ bytes is. c.in_default.not-Name bytes
          (ap (λ (l : LocatedToken). l.token) c.peek.ensures.value ∙ is))) refl path;
      stays = (stays_body (scope_of c.args.parser.now)).function;
      kept = stays_ready c.args.parser.now c.requires.ready;
    }

pub returns-in_ok-more_names-clause-kept : goal.returns-in_ok-more_names-clause-kept
returns-in_ok-more_names-clause-kept g c =
    kept_then _ _ _ (on _ _ c.in_ok-expect_declaration.ensures.kept) c.in_ok-more_names.ensures.kept

pub returns-in_ok-more_names-clause-passes : goal.returns-in_ok-more_names-clause-passes
returns-in_ok-more_names-clause-passes g c =
    let is : c.args.parser.now.position.lookahead.cursor.next.token ≡ token.Name c.in-Name.field-0 = cc in
    λ o below values acts path. c.in_ok-more_names.ensures.passes o _ _ _
    (c.in_ok-expect_declaration.ensures.passes o _ _ _
    (given Parameters (AName Parameter ∷ Part (More Parameter) ∷ [])
    (parameters_more c.in-Name.field-0 _ is) refl path))
