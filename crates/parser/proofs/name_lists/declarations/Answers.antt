use Rattle.std.proofs.Common.{◌≡◌, [], ◌∷◌, ◌++◌, refl, true, false}
use Rattle.tokens.specs.declared.located_tokens.Keyword.TheVariants as keyword
use Rattle.grammar.specs.Grammar.{Part, is_keyword}
use Rattle.parser.proofs.Passing.{passed_on}
use Rattle.parser.proofs.Names.{stays_at_then}
use Rattle.parser.specs.Declarations.{declaration_items, declarations_of}
use Rattle.parser.proofs.Advances.{kept_then, on}
use Rattle.parser.proofs.ListLaws.{declarations_end, declarations_more, goes_on, leaves, opens_on}
use Rattle.parser.proofs.ListPaths.{emit_nothing, given}
use Rattle.parser.proofs.name_lists.declarations.Goals as goal

pub loop-declared-preserved : goal.loop-declared-preserved
loop-declared-preserved g c =
    let is : is_keyword keyword.Type c.loop-declared.parser.position.lookahead.cursor.next.token ≡ true = cc in
    record {
      matches =
          λ depth. goes_on depth _ (declaration_items c.args.declared) [] (Part (declarations_of c.args.declared) ∷ [])
          _ _ _ (λ stack. refl)
          (opens_on depth _ (declarations_of c.args.declared)
          (declaration_items c.args.declared ++ Part (declarations_of c.args.declared) ∷ []) _ _
          c.loop-declared.invariant.kept.ready.sound
          (declarations_more c.args.declared _ c.requires.blocks is) (c.loop-declared.invariant.matches depth))
          (c.in_ok-declaration.ensures.matches depth);
      stays = stays_at_then c.args.declared _ _ _ c.loop-declared.invariant.stays c.in_ok-declaration.ensures.stays;
      passed = λ o below values acts path. c.in_ok-declaration.ensures.passes o
          (Part (declarations_of c.args.declared) ∷ below) values acts (given (declarations_of c.args.declared)
          (declaration_items c.args.declared ++ Part (declarations_of c.args.declared) ∷ [])
          (declarations_more c.args.declared _ c.requires.blocks is) (emit_nothing c.args.declared _ _)
          (c.loop-declared.invariant.passed o below values acts path));
      kept = kept_then _ _ _ c.loop-declared.invariant.kept (on _ _ c.in_ok-declaration.ensures.kept);
    }

pub returns-in_err-declaration-clause-matches : goal.returns-in_err-declaration-clause-matches
returns-in_err-declaration-clause-matches g c =
    let is : is_keyword keyword.Type c.loop-declared.parser.position.lookahead.cursor.next.token ≡ true = cc in
    rw (passed_on c.from_residual.result c.from_residual.ensures.1) (leaves _
    (Part (declarations_of c.args.declared) ∷ []) (declaration_items c.args.declared)
    (Part (declarations_of c.args.declared) ∷ []) _ _ c.in_err-declaration.field-0.0 (λ stack. refl)
    (λ depth. opens_on depth _ (declarations_of c.args.declared)
    (declaration_items c.args.declared ++ Part (declarations_of c.args.declared) ∷ []) _ _
    c.loop-declared.invariant.kept.ready.sound
    (declarations_more c.args.declared _ c.requires.blocks is) (c.loop-declared.invariant.matches depth))
    c.in_err-declaration.ensures.matches)

pub returns-clause-matches : goal.returns-clause-matches
returns-clause-matches g c depth =
    let other : is_keyword keyword.Type c.loop-declared.parser.position.lookahead.cursor.next.token ≡ false = cc in
    opens_on depth _ (declarations_of c.args.declared) [] _ _ c.loop-declared.invariant.kept.ready.sound
    (declarations_end c.args.declared _ c.requires.blocks other) (c.loop-declared.invariant.matches depth)

pub returns-clause-passes : goal.returns-clause-passes
returns-clause-passes g c =
    let other : is_keyword keyword.Type c.loop-declared.parser.position.lookahead.cursor.next.token ≡ false = cc in
    λ o below values acts path.
    given (declarations_of c.args.declared) [] (declarations_end c.args.declared _ c.requires.blocks other)
    (emit_nothing c.args.declared _ _) (c.loop-declared.invariant.passed o below values acts path)
