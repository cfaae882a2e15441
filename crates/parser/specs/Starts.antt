-- The two tokens with which a form of an expression starts.
use Rattle.std.specs.Prelude.{◌≡◌, ℕ, Some, None, is_some, true, false}
use Rattle.tokens.specs.declared.located_tokens.Punctuator.{Punctuator}
use Rattle.tokens.specs.declared.located_tokens.Punctuator.TheVariants as punctuator
use Rattle.tokens.specs.declared.located_tokens.Token.TheVariants as token
use Rattle.tokens.specs.Cursors.{FitsToken}
use Rattle.grammar.specs.declared.operators.StoreOp.{StoreOp}
use Rattle.grammar.specs.Derivation.{name_of_token}
use Rattle.grammar.specs.Grammar.{is_punctuator}
use Rattle.grammar.specs.Laws.OperatorTokens.{store_operator}
use Rattle.parser.specs.ScopedCursors.{ScopedCursor, token_after, token_of}
use Rattle.parser.specs.declared.unary_ops.IncrementOp.{IncrementOp}
use Rattle.parser.specs.UnaryOps.{increment_punctuator}

-- a constant, of a value that it may have
pub record StartsConstant (value : ℕ) (at : ScopedCursor) : Type 0 where
  pub is : token_of at ≡ token.Constant value
  pub fits : FitsToken (token.Constant value)

-- a punctuator
pub record StartsPunctuator (at : ScopedCursor) : Type 0 where
  pub m : Punctuator
  pub is : token_of at ≡ token.Punctuator m

-- a name
abbrev pub StartsName : ScopedCursor → Type 0
StartsName at = is_some (name_of_token (token_of at)) ≡ true

-- a name and an operator of assignments
pub record StartsAssignment (op : StoreOp) (at : ScopedCursor) : Type 0 where
  pub named : StartsName at
  pub is : store_operator (token_after at) ≡ Some op

-- no name, or none of these operators after it
abbrev pub StartsNoAssignment : ScopedCursor → Type 0
StartsNoAssignment at = StartsName at → store_operator (token_after at) ≡ None

-- a name and `(`
pub record StartsCall (at : ScopedCursor) : Type 0 where
  pub named : StartsName at
  pub is : is_punctuator punctuator.OpenRound (token_after at) ≡ true

-- a name and `++` or `--`
pub record StartsPostfix (increment : IncrementOp) (at : ScopedCursor) : Type 0 where
  pub named : StartsName at
  pub is : is_punctuator (increment_punctuator increment) (token_after at) ≡ true

-- a name, and neither `(` nor `++` nor `--` after it
pub record StartsVariable (at : ScopedCursor) : Type 0 where
  pub named : StartsName at
  pub plain : is_punctuator punctuator.OpenRound (token_after at) ≡ false
  pub none : (increment : IncrementOp) → is_punctuator (increment_punctuator increment) (token_after at) ≡ false
