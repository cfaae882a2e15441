-- The steps of operands: which production the next token chooses, and what it emits.
use Rattle.std.proofs.Common.{◌≡◌, ◌<◌, ℕ, List, [], ◌∷◌, refl, true, false}
use Rattle.tokens.specs.declared.located_tokens.Punctuator.TheVariants as punctuator
use Rattle.tokens.specs.declared.located_tokens.Token.TheVariants as token
use Rattle.grammar.specs.declared.actions.Action.{Action}
use Rattle.grammar.specs.declared.diagnostics.ParseFault.TheVariants as parse_fault
use Rattle.grammar.specs.declared.name_limits.TheConstants.{MOST_NESTED}
use Rattle.grammar.specs.Compiled.{diagnostic}
use Rattle.grammar.specs.Derivation.{PartialTree, AnExpr}
use Rattle.grammar.specs.Faults.{nested_count, unexpected_token_code}
use Rattle.grammar.specs.Grammar.{Item, AConstant, AName, AddArgument, Arguments, Called, Close, Complement, Exactly, Expression, Fetch, Invoke, Make, Mentioned, MoreArguments, Negate, Not, Part, PostfixIncrement, PrefixIncrement, Primary, Unary, is_punctuator}
use Rattle.grammar.specs.Tree.{Expr}
use Rattle.grammar_laws.specs.Emission.{and_then}
use Rattle.parser.specs.Paths.{Origin, Path, Refused}
use Rattle.parser.specs.ScopedCursors.{ScopedCursor, next_at, token_of}
use Rattle.parser.specs.Starts.{StartsCall, StartsPostfix, StartsVariable}
use Rattle.parser.specs.UnaryOps.{actions_after_operand, actions_before_operand, increment_punctuator, increment_store_op, unary_action, unary_punctuator, unary_tree}
use Rattle.parser.specs.declared.unary_ops.IncrementOp.{IncrementOp}
use Rattle.parser.specs.declared.unary_ops.UnaryOp.{UnaryOp}
use Rattle.parser.specs.declared.unary_ops.UnaryOp.TheVariants as unary_op
use Rattle.parser.proofs.NameLaws.{IsNamed, is_named}
use Rattle.parser.proofs.OperandForms.{NoOperator, NoPrimary, before_chooses, before_emits, before_enters_none, behind_chooses, behind_enters_none, call_chooses, comma_choice, end_choice, fetch_chooses, first_choice, name_enters_none, open_chooses, primary_choice, primary_emits, primary_enters, primary_misfits, sign_chooses, sign_emits}
use Rattle.parser.proofs.Parts.{punctuator_is}
use Rattle.parser.proofs.PathLaws.{chosen, faulty, made, opened}

module _ {o : Origin} {stack : List Item} {values : List PartialTree} {acts : List Action} {at : ScopedCursor} where
  -- Unary operators, and ++ and --.

  pub sign_path : (s : UnaryOp) → is_punctuator (unary_punctuator s) (token_of at) ≡ true →
      nested_count stack < MOST_NESTED → Path o (Part Unary ∷ stack) values acts at →
      Path o (Exactly (unary_punctuator s) ∷ Part Unary ∷ Make (unary_action s) ∷ Close ∷ stack) values
      (and_then acts (actions_before_operand s)) at
  sign_path s is few h =
      opened Unary (Exactly (unary_punctuator s) ∷ Part Unary ∷ Make (unary_action s) ∷ Close ∷ [])
      (sign_chooses at.position s is).is few (sign_emits s (token_of at) _ is) h

  pub prefix_path : (s : IncrementOp) → is_punctuator (increment_punctuator s) (token_of at) ≡ true →
      Path o (Part Unary ∷ stack) values acts at →
      Path o
      (Exactly (increment_punctuator s) ∷ AName Mentioned ∷ Make (PrefixIncrement (increment_store_op s)) ∷ stack)
      values acts at
  prefix_path s is h =
      chosen {more = []} Unary
      (Exactly (increment_punctuator s) ∷ AName Mentioned ∷ Make (PrefixIncrement (increment_store_op s)) ∷ [])
      (before_chooses at.position s is).is (before_enters_none at.position s is)
      (before_emits s (token_of at) _ is) h

  pub primary_path : NoOperator (token_of at) → Path o (Part Unary ∷ stack) values acts at →
      Path o (Part Primary ∷ stack) values acts at
  primary_path n h =
      chosen {more = []} Unary (Part Primary ∷ [])
      (λ after last. primary_choice (token_of at) after n.signs n.increments)
      (λ after last. primary_enters (token_of at) after n.signs) (primary_emits (token_of at) _ n.signs) h

  -- Constants and variables.

  pub constant_path : (value : ℕ) → token_of at ≡ token.Constant value → Path o (Part Unary ∷ stack) values acts at →
      Path o (AConstant ∷ stack) values acts at
  constant_path value is h =
      chosen {more = []} Primary (AConstant ∷ []) (λ after last. rw is refl) (λ after last. rw is refl) refl
      (chosen {more = []} Unary (Part Primary ∷ []) (λ after last. rw is refl) (λ after last. rw is refl) (rw is refl)
      h)

  pub named_path : IsNamed (token_of at) → Path o (Part Unary ∷ stack) values acts at →
      Path o (Part Primary ∷ stack) values acts at
  named_path n h =
      chosen {more = []} Unary (Part Primary ∷ []) (λ after last. rw n.is refl) (λ after last. rw n.is refl)
      (rw n.is refl) h

  pub variable_path : StartsVariable at → Path o (Part Unary ∷ stack) values acts at →
      Path o (AName Mentioned ∷ Make Fetch ∷ stack) values acts at
  variable_path starts h =
      let n : IsNamed (token_of at) = is_named _ starts.named in
      chosen {more = []} Primary (AName Mentioned ∷ Make Fetch ∷ [])
      (fetch_chooses at.position n starts.plain starts.none).is (name_enters_none at.position n starts.plain) refl
      (named_path n h)

  pub postfix_path : (s : IncrementOp) → StartsPostfix s at → Path o (Part Unary ∷ stack) values acts at →
      Path o
      (AName Mentioned ∷ Exactly (increment_punctuator s) ∷ Make (PostfixIncrement (increment_store_op s)) ∷ stack)
      values acts at
  postfix_path s starts h =
      let n : IsNamed (token_of at) = is_named _ starts.named in
      chosen {more = []} Primary
      (AName Mentioned ∷ Exactly (increment_punctuator s) ∷ Make (PostfixIncrement (increment_store_op s)) ∷ [])
      (behind_chooses at.position s n starts.is).is (behind_enters_none at.position s n starts.is) refl (named_path n h)

  -- Calls.

  pub call_path : StartsCall at → nested_count stack < MOST_NESTED → Path o (Part Unary ∷ stack) values acts at →
      Path o
      (AName Called ∷ Exactly punctuator.OpenRound ∷ Part Arguments ∷ Exactly punctuator.CloseRound ∷ Make Invoke ∷
      Close
      ∷ stack) values acts at
  call_path starts few h =
      let n : IsNamed (token_of at) = is_named _ starts.named in
      opened {more = []} Primary
      (AName Called ∷ Exactly punctuator.OpenRound ∷ Part Arguments ∷ Exactly punctuator.CloseRound ∷ Make Invoke ∷
      Close
      ∷ []) (call_chooses at.position n starts.is).is few refl (named_path n h)

  pub no_arguments_path : is_punctuator punctuator.CloseRound (token_of at) ≡ true →
      Path o (Part Arguments ∷ stack) values acts at → Path o stack values acts at
  no_arguments_path is h =
      chosen {more = []} Arguments [] (λ after last. rw (punctuator_is punctuator.CloseRound (token_of at) is) refl)
      (λ after last. refl) refl h

  pub first_argument_path : is_punctuator punctuator.CloseRound (token_of at) ≡ false →
      Path o (Part Arguments ∷ stack) values acts at →
      Path o (Part Expression ∷ Make AddArgument ∷ Part MoreArguments ∷ stack) values acts at
  first_argument_path other h =
      chosen {more = []} Arguments (Part Expression ∷ Make AddArgument ∷ Part MoreArguments ∷ [])
      (λ after last. first_choice (token_of at) after other) (λ after last. refl) refl h

  pub next_argument_path : is_punctuator punctuator.Comma (token_of at) ≡ true →
      Path o (Part MoreArguments ∷ stack) values acts at →
      Path o (Exactly punctuator.Comma ∷ Part Expression ∷ Make AddArgument ∷ Part MoreArguments ∷ stack) values acts at
  next_argument_path is h =
      chosen {more = []} MoreArguments
      (Exactly punctuator.Comma ∷ Part Expression ∷ Make AddArgument ∷ Part MoreArguments ∷ [])
      (λ after last. comma_choice (token_of at) after is) (λ after last. refl) refl h

  pub last_argument_path : is_punctuator punctuator.Comma (token_of at) ≡ false →
      Path o (Part MoreArguments ∷ stack) values acts at → Path o stack values acts at
  last_argument_path other h =
      chosen {more = []} MoreArguments [] (λ after last. end_choice (token_of at) after other) (λ after last. refl) refl
      h

  -- Brackets.

  pub bracketed_path : is_punctuator punctuator.OpenRound (token_of at) ≡ true →
      Path o (Part Unary ∷ stack) values acts at →
      Path o (Part Primary ∷ stack) values acts at
  bracketed_path is h =
      let t = punctuator_is punctuator.OpenRound (token_of at) is in
      chosen {more = []} Unary (Part Primary ∷ []) (λ after last. rw t refl) (λ after last. rw t refl) (rw t refl) h

  pub bracket_path : is_punctuator punctuator.OpenRound (token_of at) ≡ true → nested_count stack < MOST_NESTED →
      Path o (Part Unary ∷ stack) values acts at →
      Path o (Exactly punctuator.OpenRound ∷ Part Expression ∷ Exactly punctuator.CloseRound ∷ Close ∷ stack) values
      acts at
  bracket_path is few h =
      opened {more = []} Primary
      (Exactly punctuator.OpenRound ∷ Part Expression ∷ Exactly punctuator.CloseRound ∷ Close ∷ [])
      (open_chooses at.position is).is few refl (bracketed_path is h)

  -- The tree of a unary operator.

  pub signed_path : {e : Expr} (s : UnaryOp) → Path o (Make (unary_action s) ∷ stack) (AnExpr e ∷ values) acts at →
      Path o stack (AnExpr (unary_tree s e) ∷ values) (and_then acts (actions_after_operand s)) at
  signed_path unary_op.Negation h = made Negate tt h
  signed_path unary_op.Denial h = made Not tt h
  signed_path unary_op.Complement h = made Complement tt h

  -- No operand.

  pub operand_misfits : {denied : Type 0} {told : List Action → Type 0} → NoOperator (token_of at) →
      NoPrimary (token_of at) →
      Path o (Part Unary ∷ stack) values acts at →
      Refused o denied told
      (parse_fault.Source (diagnostic (next_at at.position).line (unexpected_token_code (token_of at)))) at
  operand_misfits n p h =
      faulty (Part Primary ∷ []) stack (primary_path n h)
      (primary_misfits at.position _ h.ready.near (nested_count stack) h.ready.sound p)
