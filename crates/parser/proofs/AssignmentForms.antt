-- Which tokens begin an assignment.
use Rattle.std.proofs.Common.{◌≡◌, List, [], ◌∷◌, ℕ, refl, ap, true, false}
use Rattle.std.specs.Prelude.{Some, None, is_some}
use Rattle.tokens.specs.Tokens.{is_last}
use Rattle.tokens.specs.declared.located_tokens.LocatedToken.{LocatedToken}
use Rattle.tokens.specs.declared.located_tokens.Punctuator.{Punctuator}
use Rattle.tokens.specs.declared.located_tokens.Token.{Token}
use Rattle.tokens.specs.declared.located_tokens.Token.TheVariants as token
use Rattle.grammar.specs.declared.operators.StoreOp.{StoreOp}
use Rattle.grammar.specs.declared.resolved_names.Var.{Var}
use Rattle.grammar.specs.Derivation.{AVariable, name_of_token}
use Rattle.grammar.specs.Grammar.{AName, Close, Exactly, Expression, Level, Make, Mentioned, Part, Store, choice, enters, is_punctuator}
use Rattle.grammar.specs.Laws.OperatorTokens.{store_operator}
use Rattle.grammar.specs.Operators.{store_of}
use Rattle.parser.specs.ScopedCursors.{UnreadPosition, after_at, next_at}
use Rattle.parser.specs.Segment.{DerivesItem}
use Rattle.parser.proofs.NameLaws.{IsNamed, after_name, behind_name_is, is_named, named_sound}
use Rattle.parser.proofs.Productions.{Chooses, IsNested, same_self}

-- An expression that is no assignment.

pub plain_choice : (t after : Token) → (is_some (name_of_token t) ≡ true → store_operator after ≡ None) →
    choice Expression t after ≡ Some (Part (Level 1) ∷ [])
plain_choice (token.Name name) (token.Punctuator m) none = let e : store_of m ≡ None = none refl in rw e refl
plain_choice t after none = refl

pub plain_enters : (t after : Token) → (is_some (name_of_token t) ≡ true → store_operator after ≡ None) →
    enters Expression t after ≡ false
plain_enters (token.Name name) (token.Punctuator m) none = let e : store_of m ≡ None = none refl in rw e refl
plain_enters t after none = refl

-- no operator of an assignment follows a name
abbrev pub NoAssignment : UnreadPosition → Type 0
NoAssignment at = is_some (name_of_token (next_at at).token) ≡ true → store_operator (after_at at) ≡ None

pub none_behind : (at : UnreadPosition) (after : Token) → NoAssignment at →
    (is_last (next_at at).token ≡ false → after ≡ after_at at) → is_some (name_of_token (next_at at).token) ≡ true →
    store_operator after ≡ None
none_behind at after none more h = rw (after_name at after (is_named (next_at at).token h) more) (none h)

-- An assignment.

pub record SpellsStore (o : StoreOp) (t : Token) : Type 0 where
  pub m : Punctuator
  pub is : t ≡ token.Punctuator m
  pub store : store_of m ≡ Some o
  pub fits : is_punctuator m t ≡ true

pub spells_store : (o : StoreOp) (t : Token) → store_operator t ≡ Some o → SpellsStore o t
spells_store o (token.Punctuator m) is = record { m = m; is = refl; store = is; fits = same_self m }
spells_store o t is = absurd (cc)

pub store_goes_on : (o : StoreOp) (t : Token) → store_operator t ≡ Some o → is_last t ≡ false
store_goes_on o t is = let s : SpellsStore o t = spells_store o t is in rw s.is refl

pub store_choice : (name : List ℕ) (m : Punctuator) (o : StoreOp) → store_of m ≡ Some o →
    choice Expression (token.Name name) (token.Punctuator m) ≡
    Some (AName Mentioned ∷ Exactly m ∷ Part Expression ∷ Make (Store o) ∷ Close ∷ [])
store_choice name m o is = rw is refl

pub store_enters : (name : List ℕ) (m : Punctuator) (o : StoreOp) → store_of m ≡ Some o →
    enters Expression (token.Name name) (token.Punctuator m) ≡ true
store_enters name m o is = rw is refl

-- a name is next, and the operator of an assignment after it
pub record IsAssignment (at : UnreadPosition) (o : StoreOp) : Type 0 where
  pub named : IsNamed (next_at at).token
  pub is : store_operator (after_at at) ≡ Some o

pub sign_of : (at : UnreadPosition) (o : StoreOp) → IsAssignment at o → SpellsStore o (after_at at)
sign_of at o a = spells_store o (after_at at) a.is

pub store_chooses : (at : UnreadPosition) (o : StoreOp) (a : IsAssignment at o) (s : SpellsStore o (after_at at)) →
    Chooses at Expression (AName Mentioned ∷ Exactly s.m ∷ Part Expression ∷ Make (Store o) ∷ Close ∷ [])
store_chooses at o a s = record {
  sound = named_sound (next_at at).token a.named;
  is =
      λ after more. let n : (next_at at).token ≡
      token.Name a.named.name = a.named.is in rw (n, after_name at after a.named more, s.is)
      (store_choice a.named.name s.m o s.store);
}

pub store_is_nested : (at : UnreadPosition) (o : StoreOp) (a : IsAssignment at o) (s : SpellsStore o (after_at at)) →
    IsNested at Expression
store_is_nested at o a s after more =
    let n : (next_at at).token ≡ token.Name a.named.name = a.named.is in
    rw (n, after_name at after a.named more, s.is) (store_enters a.named.name s.m o s.store)

-- the operator is next after the name
pub next_is : (at now : UnreadPosition) (o : StoreOp) (v : Var) → IsAssignment at o →
    DerivesItem (AName Mentioned) [] (AVariable v ∷ []) at now → (next_at now).token ≡ after_at at
next_is at now o v a item =
    ap (λ (l : LocatedToken). l.token) (behind_name_is at now Mentioned (AVariable v ∷ []) a.named item)

pub sign_goes_on : (at now : UnreadPosition) (o : StoreOp) (v : Var) → IsAssignment at o →
    DerivesItem (AName Mentioned) [] (AVariable v ∷ []) at now → is_last (next_at now).token ≡ false
sign_goes_on at now o v a item = rw (next_is at now o v a item) (store_goes_on o (after_at at) a.is)

pub sign_fits : (at now : UnreadPosition) (o : StoreOp) (v : Var) → IsAssignment at o →
    DerivesItem (AName Mentioned) [] (AVariable v ∷ []) at now → (s : SpellsStore o (after_at at)) →
    is_punctuator s.m (next_at now).token ≡ true
sign_fits at now o v a item s = rw (next_is at now o v a item) s.fits
