-- Which production of an operand a token chooses.
use Rattle.std.proofs.Common.{◌≡◌, ℕ, pos, List, [], ◌∷◌, refl, sym, ◌∙◌, true, false}
use Rattle.std.specs.Prelude.{Some, None}
use Rattle.tokens.specs.Cursors.{IsNearTo}
use Rattle.tokens.specs.declared.located_tokens.Punctuator.{Punctuator}
use Rattle.tokens.specs.declared.located_tokens.Punctuator.TheVariants as punctuator
use Rattle.tokens.specs.declared.located_tokens.Token.{Token}
use Rattle.tokens.specs.declared.located_tokens.Token.TheVariants as token
use Rattle.tokens.specs.declared.located_tokens.LocatedToken.{LocatedToken}
use Rattle.grammar.specs.declared.diagnostics.ParseFault.{ParseFault}
use Rattle.grammar.specs.declared.diagnostics.ParseFault.TheVariants as parse_fault
use Rattle.grammar.specs.Compiled.{diagnostic}
use Rattle.grammar.specs.Faults.{unexpected_token_code}
use Rattle.grammar.specs.Derivation.{AnExpr, constant_value}
use Rattle.grammar.specs.Tree.{Constant}
use Rattle.grammar.proofs.Steps.{constant}
use Rattle.grammar.specs.Grammar.{AConstant, AName, Arguments, AddArgument, Called, Close, Exactly, Expression, Fetch, Invoke, Make, Mentioned, MoreArguments, Part, PostfixIncrement, PrefixIncrement, Primary, Unary, choice, enters, is_lexical_error, is_punctuator}
use Rattle.grammar.specs.Scope.{Scope}
use Rattle.grammar_laws.specs.Emission.{on_choice}
use Rattle.parser.specs.ScopedCursors.{UnreadPosition, after_at, next_at, scope_at}
use Rattle.parser.specs.Segment.{FailsAt, FailsItem, Refused, StopsAt}
use Rattle.parser.specs.Stopping.{stop_with}
use Rattle.parser.specs.declared.unary_ops.IncrementOp.{IncrementOp}
use Rattle.parser.specs.declared.unary_ops.IncrementOp.TheVariants as increment_op
use Rattle.parser.specs.declared.unary_ops.UnaryOp.{UnaryOp}
use Rattle.parser.specs.declared.unary_ops.UnaryOp.TheVariants as unary_op
use Rattle.parser.specs.UnaryOps.{actions_before_operand, increment_punctuator, increment_store_op, unary_action, unary_punctuator}
use Rattle.parser.proofs.NameLaws.{IsNamed, after_name, named_sound}
use Rattle.parser.proofs.Parts.{punctuator_is}
use Rattle.parser.proofs.Segments.{Leads, refused_map, stops}
use Rattle.parser.proofs.Productions.{Chooses, EntersNone, IsNested, none_chosen, punctuator_sound}

-- A variable's value.

pub fetch_choice : (name : List ℕ) (after : Token) → is_punctuator punctuator.OpenRound after ≡ false →
    is_punctuator punctuator.PlusPlus after ≡ false → is_punctuator punctuator.MinusMinus after ≡ false →
    choice Primary (token.Name name) after ≡ Some (AName Mentioned ∷ Make Fetch ∷ [])
fetch_choice name (token.Punctuator punctuator.OpenRound) call up down = absurd (cc)
fetch_choice name (token.Punctuator punctuator.PlusPlus) call up down = absurd (cc)
fetch_choice name (token.Punctuator punctuator.MinusMinus) call up down = absurd (cc)
fetch_choice name after call up down = refl

pub name_enters : (name : List ℕ) (after : Token) → is_punctuator punctuator.OpenRound after ≡ false →
    enters Primary (token.Name name) after ≡ false
name_enters name (token.Punctuator punctuator.OpenRound) call = absurd (cc)
name_enters name after call = refl

pub name_enters_none : (at : UnreadPosition) → IsNamed (next_at at).token →
    is_punctuator punctuator.OpenRound (after_at at) ≡ false → EntersNone at Primary
name_enters_none at n call after more = rw (n.is, after_name at after n more) (name_enters n.name (after_at at) call)

-- it isn't followed by ++ or --
abbrev pub NoIncrement : UnreadPosition → Type 0
NoIncrement at = (s : IncrementOp) → is_punctuator (increment_punctuator s) (after_at at) ≡ false

pub fetch_chooses : (at : UnreadPosition) → IsNamed (next_at at).token →
    is_punctuator punctuator.OpenRound (after_at at) ≡ false →
    NoIncrement at → Chooses at Primary (AName Mentioned ∷ Make Fetch ∷ [])
fetch_chooses at n call none = record {
  sound = named_sound (next_at at).token n;
  is =
      λ after more. rw (n.is, after_name at after n more)
      (fetch_choice n.name (after_at at) call (none increment_op.Increment) (none increment_op.Decrement));
}

-- ++ or -- after a variable.

pub behind_choice : (name : List ℕ) (s : IncrementOp) →
    choice Primary (token.Name name) (token.Punctuator (increment_punctuator s)) ≡
    Some (AName Mentioned ∷ Exactly (increment_punctuator s) ∷ Make (PostfixIncrement (increment_store_op s)) ∷ [])
behind_choice name increment_op.Increment = refl
behind_choice name increment_op.Decrement = refl

pub behind_enters : (name : List ℕ) (s : IncrementOp) →
    enters Primary (token.Name name) (token.Punctuator (increment_punctuator s)) ≡ false
behind_enters name increment_op.Increment = refl
behind_enters name increment_op.Decrement = refl

pub behind_chooses : (at : UnreadPosition) (s : IncrementOp) → IsNamed (next_at at).token →
    is_punctuator (increment_punctuator s) (after_at at) ≡ true →
    Chooses at Primary
    (AName Mentioned ∷ Exactly (increment_punctuator s) ∷ Make (PostfixIncrement (increment_store_op s)) ∷ [])
behind_chooses at s n fits = record {
  sound = named_sound (next_at at).token n;
  is =
      λ after more. let t : after_at at ≡
      token.Punctuator (increment_punctuator s) = punctuator_is (increment_punctuator s) (after_at at) fits in rw
      (n.is, after_name at after n more, t) (behind_choice n.name s);
}

pub behind_enters_none : (at : UnreadPosition) (s : IncrementOp) → IsNamed (next_at at).token →
    is_punctuator (increment_punctuator s) (after_at at) ≡ true → EntersNone at Primary
behind_enters_none at s n fits after more =
    let t : after_at at ≡ token.Punctuator (increment_punctuator s) =
    punctuator_is (increment_punctuator s) (after_at at) fits in
    rw (n.is, after_name at after n more, t) (behind_enters n.name s)

-- ++ or -- before a variable.

pub before_choice : (s : IncrementOp) (after : Token) →
    choice Unary (token.Punctuator (increment_punctuator s)) after ≡
    Some (Exactly (increment_punctuator s) ∷ AName Mentioned ∷ Make (PrefixIncrement (increment_store_op s)) ∷ [])
before_choice increment_op.Increment after = refl
before_choice increment_op.Decrement after = refl

pub before_enters : (s : IncrementOp) (after : Token) →
    enters Unary (token.Punctuator (increment_punctuator s)) after ≡ false
before_enters increment_op.Increment after = refl
before_enters increment_op.Decrement after = refl

pub before_chooses : (at : UnreadPosition) (s : IncrementOp) →
    is_punctuator (increment_punctuator s) (next_at at).token ≡ true →
    Chooses at Unary
    (Exactly (increment_punctuator s) ∷ AName Mentioned ∷ Make (PrefixIncrement (increment_store_op s)) ∷ [])
before_chooses at s fits = record {
  sound = punctuator_sound (increment_punctuator s) (next_at at).token fits;
  is = λ after more. rw (punctuator_is (increment_punctuator s) (next_at at).token fits) (before_choice s after);
}

pub before_enters_none : (at : UnreadPosition) (s : IncrementOp) →
    is_punctuator (increment_punctuator s) (next_at at).token ≡ true → EntersNone at Unary
before_enters_none at s fits after more =
    rw (punctuator_is (increment_punctuator s) (next_at at).token fits) (before_enters s after)

pub before_emits : (s : IncrementOp) (t : Token) (scope : Scope) → is_punctuator (increment_punctuator s) t ≡ true →
    on_choice Unary t scope ≡ []
before_emits increment_op.Increment t scope fits = rw (punctuator_is punctuator.PlusPlus t fits) refl
before_emits increment_op.Decrement t scope fits = rw (punctuator_is punctuator.MinusMinus t fits) refl

-- A unary operator.

pub sign_choice : (s : UnaryOp) (after : Token) →
    choice Unary (token.Punctuator (unary_punctuator s)) after ≡
    Some (Exactly (unary_punctuator s) ∷ Part Unary ∷ Make (unary_action s) ∷ Close ∷ [])
sign_choice unary_op.Negation after = refl
sign_choice unary_op.Denial after = refl
sign_choice unary_op.Complement after = refl

pub sign_enters : (s : UnaryOp) (after : Token) → enters Unary (token.Punctuator (unary_punctuator s)) after ≡ true
sign_enters unary_op.Negation after = refl
sign_enters unary_op.Denial after = refl
sign_enters unary_op.Complement after = refl

pub sign_chooses : (at : UnreadPosition) (s : UnaryOp) → is_punctuator (unary_punctuator s) (next_at at).token ≡ true →
    Chooses at Unary (Exactly (unary_punctuator s) ∷ Part Unary ∷ Make (unary_action s) ∷ Close ∷ [])
sign_chooses at s fits = record {
  sound = punctuator_sound (unary_punctuator s) (next_at at).token fits;
  is =
      λ after more. let t : (next_at at).token ≡
      token.Punctuator (unary_punctuator s) = punctuator_is (unary_punctuator s) (next_at at).token fits in rw t
      (sign_choice s after);
}

pub sign_is_nested : (at : UnreadPosition) (s : UnaryOp) →
    is_punctuator (unary_punctuator s) (next_at at).token ≡ true →
    IsNested at Unary
sign_is_nested at s fits after more =
    let t : (next_at at).token ≡ token.Punctuator (unary_punctuator s) =
    punctuator_is (unary_punctuator s) (next_at at).token fits in
    rw t (sign_enters s after)

pub sign_emits : (s : UnaryOp) (t : Token) (scope : Scope) → is_punctuator (unary_punctuator s) t ≡ true →
    on_choice Unary t scope ≡ actions_before_operand s
sign_emits unary_op.Negation t scope fits = rw (punctuator_is punctuator.Minus t fits) refl
sign_emits unary_op.Denial t scope fits = rw (punctuator_is punctuator.Not t fits) refl
sign_emits unary_op.Complement t scope fits = rw (punctuator_is punctuator.Tilde t fits) refl

-- A call.

pub call_chooses : (at : UnreadPosition) → IsNamed (next_at at).token →
    is_punctuator punctuator.OpenRound (after_at at) ≡ true →
    Chooses at Primary
    (AName Called ∷ Exactly punctuator.OpenRound ∷ Part Arguments ∷ Exactly punctuator.CloseRound ∷ Make Invoke ∷
    Close ∷ [])
call_chooses at n fits = record {
  sound = named_sound (next_at at).token n;
  is =
      λ after more. let t : after_at at ≡
      token.Punctuator punctuator.OpenRound = punctuator_is punctuator.OpenRound (after_at at) fits in rw
      (n.is, after_name at after n more, t) refl;
}

pub call_enters : (at : UnreadPosition) → IsNamed (next_at at).token →
    is_punctuator punctuator.OpenRound (after_at at) ≡ true →
    IsNested at Primary
call_enters at n fits after more =
    let t : after_at at ≡ token.Punctuator punctuator.OpenRound =
    punctuator_is punctuator.OpenRound (after_at at) fits in
    rw (n.is, after_name at after n more, t) refl

pub first_choice : (t after : Token) → is_punctuator punctuator.CloseRound t ≡ false →
    choice Arguments t after ≡ Some (Part Expression ∷ Make AddArgument ∷ Part MoreArguments ∷ [])
first_choice (token.Punctuator punctuator.CloseRound) after other = absurd (cc)
first_choice t after other = refl

pub comma_choice : (t after : Token) → is_punctuator punctuator.Comma t ≡ true →
    choice MoreArguments t after ≡
    Some (Exactly punctuator.Comma ∷ Part Expression ∷ Make AddArgument ∷ Part MoreArguments ∷ [])
comma_choice t after fits = rw (punctuator_is punctuator.Comma t fits) refl

pub end_choice : (t after : Token) → is_punctuator punctuator.Comma t ≡ false → choice MoreArguments t after ≡ Some []
end_choice (token.Punctuator punctuator.Comma) after other = absurd (cc)
end_choice t after other = refl

-- Brackets.

pub open_chooses : (at : UnreadPosition) → is_punctuator punctuator.OpenRound (next_at at).token ≡ true →
    Chooses at Primary (Exactly punctuator.OpenRound ∷ Part Expression ∷ Exactly punctuator.CloseRound ∷ Close ∷ [])
open_chooses at fits = record {
  sound = punctuator_sound punctuator.OpenRound (next_at at).token fits;
  is =
      λ after more. rw (punctuator_is punctuator.OpenRound (next_at at).token fits) refl;
}

pub open_enters : (at : UnreadPosition) → is_punctuator punctuator.OpenRound (next_at at).token ≡ true →
    IsNested at Primary
open_enters at fits after more = rw (punctuator_is punctuator.OpenRound (next_at at).token fits) refl

-- An operand without a unary operator is a primary.

pub primary_choice : (t after : Token) → ((s : UnaryOp) → is_punctuator (unary_punctuator s) t ≡ false) →
    ((s : IncrementOp) → is_punctuator (increment_punctuator s) t ≡ false) →
    choice Unary t after ≡ Some (Part Primary ∷ [])
primary_choice (token.Punctuator punctuator.Minus) after signs increments = absurd (cc (signs unary_op.Negation))
primary_choice (token.Punctuator punctuator.Not) after signs increments = absurd (cc (signs unary_op.Denial))
primary_choice (token.Punctuator punctuator.Tilde) after signs increments = absurd (cc (signs unary_op.Complement))
primary_choice (token.Punctuator punctuator.PlusPlus) after signs increments =
    absurd (cc (increments increment_op.Increment))
primary_choice (token.Punctuator punctuator.MinusMinus) after signs increments =
    absurd (cc (increments increment_op.Decrement))
primary_choice t after signs increments = refl

pub primary_enters : (t after : Token) → ((s : UnaryOp) → is_punctuator (unary_punctuator s) t ≡ false) →
    enters Unary t after ≡ false
primary_enters (token.Punctuator punctuator.Minus) after signs = absurd (cc (signs unary_op.Negation))
primary_enters (token.Punctuator punctuator.Not) after signs = absurd (cc (signs unary_op.Denial))
primary_enters (token.Punctuator punctuator.Tilde) after signs = absurd (cc (signs unary_op.Complement))
primary_enters t after signs = refl

-- the next token is no unary operator
pub record NoOperator (t : Token) : Type 0 where
  pub sound : is_lexical_error t ≡ false
  pub signs : (s : UnaryOp) → is_punctuator (unary_punctuator s) t ≡ false
  pub increments : (s : IncrementOp) → is_punctuator (increment_punctuator s) t ≡ false

pub primary_emits : (t : Token) (scope : Scope) → ((s : UnaryOp) → is_punctuator (unary_punctuator s) t ≡ false) →
    on_choice Unary t scope ≡ []
primary_emits (token.Punctuator punctuator.Minus) scope signs = absurd (cc (signs unary_op.Negation))
primary_emits t scope signs = refl

pub no_punctuator : (m : Punctuator) (t : Token) → ((n : Punctuator) → t ≡ token.Punctuator n → ⊥) →
    is_punctuator m t ≡ false
no_punctuator m (token.Punctuator n) none = absurd (none n refl)
no_punctuator m t none = refl

-- a token that is no punctuator is none
pub plain_operand : (t : Token) → is_lexical_error t ≡ false → ((n : Punctuator) → t ≡ token.Punctuator n → ⊥) →
    NoOperator t
plain_operand t sound none = record {
  sound = sound;
  signs = λ s. no_punctuator (unary_punctuator s) t none;
  increments = λ s. no_punctuator (increment_punctuator s) t none;
}

-- What begins no primary.

pub record NoPrimary (t : Token) : Type 0 where
  pub constant : (value : ℕ) → t ≡ token.Constant value → ⊥
  pub name : (name : List ℕ) → t ≡ token.Name name → ⊥
  pub bracket : is_punctuator punctuator.OpenRound t ≡ false

-- a punctuator that is no bracket
pub only_punctuator : (t : Token) (m : Punctuator) → t ≡ token.Punctuator m →
    is_punctuator punctuator.OpenRound t ≡ false → NoPrimary t
only_punctuator t m is other = record {
  constant = λ value same. absurd (let no : token.Punctuator m ≡ token.Constant value = sym is ∙ same in cc);
  name = λ name same. absurd (let no : token.Punctuator m ≡ token.Name name = sym is ∙ same in cc);
  bracket = other;
}

pub no_primary : (t after : Token) → NoPrimary t → choice Primary t after ≡ None
no_primary (token.Constant value) after n = absurd (n.constant value refl)
no_primary (token.Name name) after n = absurd (n.name name refl)
no_primary (token.Punctuator punctuator.OpenRound) after n =
    let e : is_punctuator punctuator.OpenRound (token.Punctuator punctuator.OpenRound) ≡ false = n.bracket in
    absurd (cc)
no_primary t after n = refl

pub no_primary_enters : (t after : Token) → NoPrimary t → enters Primary t after ≡ false
no_primary_enters (token.Name name) after n = absurd (n.name name refl)
no_primary_enters (token.Punctuator punctuator.OpenRound) after n =
    let e : is_punctuator punctuator.OpenRound (token.Punctuator punctuator.OpenRound) ≡ false = n.bracket in
    absurd (cc)
no_primary_enters t after n = refl

pub primary_misfits : (at : UnreadPosition) (used : ℕ) (near : IsNearTo at.lookahead.cursor used) (depth : ℕ) →
    is_lexical_error (next_at at).token ≡ false → NoPrimary (next_at at).token →
    FailsAt depth (Part Primary ∷ []) [] at
    (stop_with (parse_fault.Source (diagnostic (next_at at).line (unexpected_token_code (next_at at).token))) used)
primary_misfits at used near depth sound n =
    none_chosen at used near depth Primary sound (λ after more. no_primary (next_at at).token after n)
    (λ after more. no_primary_enters (next_at at).token after n)

-- A constant, behind which the next token is refused.

constant_leads : (located_token : LocatedToken) (value : ℕ) → located_token.token ≡ token.Constant value →
    (depth : ℕ) (in_scope : Scope) (rest : List LocatedToken) →
    Leads depth (AConstant ∷ []) [] [] (AnExpr (Constant (pos value)) ∷ []) in_scope in_scope (located_token ∷ rest)
    rest
constant_leads located_token value is depth in_scope rest = record {
  passes = λ profile stack values functions depths.
      let sound : is_lexical_error located_token.token ≡ false = rw is refl in
      let found : constant_value located_token.token ≡ Some value = rw is refl in
      constant profile value stack (located_token ∷ rest) values in_scope functions sound found;
}

pub constant_stops : (used : ℕ) (at : UnreadPosition) (value : ℕ) (f : ParseFault) →
    (next_at at).token ≡ token.Constant value →
    Refused (StopsAt at) ⊥ used f → Refused (FailsItem AConstant at) ⊥ used f
constant_stops used at value f is stop =
    refused_map used (StopsAt at) (FailsItem AConstant at) ⊥ ⊥ f
    (λ d s depth. stops at.lookahead.cursor (scope_at at) (scope_at at) at.to_come d depth (AConstant ∷ []) [] []
    (AnExpr (Constant (pos value)) ∷ []) (λ rest b. constant_leads (next_at at) value is depth (scope_at at) rest) s)
    (λ same. same) stop
