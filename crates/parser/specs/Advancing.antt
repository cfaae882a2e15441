-- What each call of a scoped cursor needs and keeps. Every contract of the front end cites these facts.
use Rattle.std.specs.Prelude.{ℕ, ◌-◌, ◌^◌, ◌≡◌, ◌<◌, ◌≤◌, false, true, Result, Ok, Err}
use Rattle.tokens.specs.WindowLimits.{most_taken_bytes}
use Rattle.tokens.specs.Cursors.{IsNear, Cursor, bytes_taken}
use Rattle.tokens.specs.Window.{TakesBytes}
use Rattle.tokens.specs.declared.located_tokens.Punctuator.{Punctuator}
use Rattle.tokens.specs.declared.located_tokens.Keyword.{Keyword}
use Rattle.grammar.specs.declared.diagnostics.ParseFault.{ParseFault}
use Rattle.grammar.specs.Grammar.{is_lexical_error, is_punctuator, is_keyword}
use Rattle.parser.specs.ScopedCursors.{ScopedCursor, taken_at, to_go, token_of}
use Rattle.parser.specs.Segment.{account_after}

-- how many failures of a device can be counted
abbrev pub most_failures : ℕ
most_failures = 2 ^ 64 - 1

-- A cursor that a scoped cursor can be made of: its next token is no lexical error, and no more bytes were taken than a
-- window past the two tokens that it holds, and no more than the most.
pub record IsReadable (cursor : Cursor) : Type 0 where
  pub sound : is_lexical_error cursor.next.token ≡ false
  pub near : IsNear cursor
  pub limited : bytes_taken cursor ≤ most_taken_bytes

-- A scoped cursor is ready for a call: its next token is no lexical error, no more bytes were taken than a window past
-- the two tokens that it holds, and a further failure of the device can be counted.
pub record IsReady (at : ScopedCursor) : Type 0 where
  pub sound : is_lexical_error (token_of at) ≡ false
  pub near : IsNear at.position.lookahead.cursor
  pub count : at.account.failures < most_failures

-- the next token is this punctuator
abbrev pub IsNextPunctuator : Punctuator → ScopedCursor → Type 0
IsNextPunctuator punctuator at = is_punctuator punctuator (token_of at) ≡ true

-- the next token is this keyword
abbrev pub IsNextKeyword : Keyword → ScopedCursor → Type 0
IsNextKeyword word at = is_keyword word (token_of at) ≡ true

-- A cursor advanced: it has the same borrows, the device did not fail and has still to give all but the bytes taken,
-- fewer tokens can come, and the cursor is ready for the next call.
pub record HasAdvanced (old new : ScopedCursor) : Type 0 where
  pub borrows : new.borrows ≡ old.borrows
  pub account : new.account ≡ old.account
  pub took : TakesBytes (taken_at old.position) (taken_at new.position) old.position.to_come new.position.to_come
  pub falls : to_go new < to_go old
  pub ready : IsReady new

-- The same if it may have consumed no token.
pub record HasStayedOrAdvanced (old new : ScopedCursor) : Type 0 where
  pub borrows : new.borrows ≡ old.borrows
  pub account : new.account ≡ old.account
  pub took : TakesBytes (taken_at old.position) (taken_at new.position) old.position.to_come new.position.to_come
  pub falls : to_go new ≤ to_go old
  pub ready : IsReady new

-- What a refusal leaves: the same borrows, one failure more if it is the device that failed, and all but the bytes
-- taken still to come. The cursor is of no more use.
pub record Stopped (fault : ParseFault) (old new : ScopedCursor) : Type 0 where
  pub borrows : new.borrows ≡ old.borrows
  pub account : new.account ≡ account_after old.account fault
  pub took : TakesBytes (taken_at old.position) (taken_at new.position) old.position.to_come new.position.to_come

-- a call that consumes at least one token if it succeeds
abbrev pub Advances : {A : Type 0} → Result A ParseFault → ScopedCursor → ScopedCursor → Type 0
Advances (Ok x) old new = HasAdvanced old new
Advances (Err fault) old new = Stopped fault old new

-- a call that may consume none
abbrev pub MayAdvance : {A : Type 0} → Result A ParseFault → ScopedCursor → ScopedCursor → Type 0
MayAdvance (Ok x) old new = HasStayedOrAdvanced old new
MayAdvance (Err fault) old new = Stopped fault old new
