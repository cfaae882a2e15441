-- What a scoped cursor is at: the next tokens, the names in scope there, and the bytes that the device has still to
-- give.
use Rattle.std.specs.Prelude.{ℕ, ◌≡◌, List, Option}
use Rattle.tokens.specs.Device.{FailureCount}
use Rattle.tokens.specs.Cursors.{Cursor, most_left, shown, bytes_taken}
use Rattle.tokens.specs.Tokens.{followed_by}
use Rattle.tokens.specs.declared.located_tokens.LocatedToken.{LocatedToken}
use Rattle.tokens.specs.declared.located_tokens.Token.{Token}
use Rattle.grammar.specs.Pools.{Pools}
use Rattle.grammar.specs.Scope.{Scope}

pub record Lookahead : Type 0 where
  pub cursor : Cursor
  pub scope : Scope

-- a lookahead, and the bytes that the device has still to give, if they are known
pub record UnreadPosition : Type 0 where
  pub lookahead : Lookahead
  pub to_come : Option (List ℕ)

abbrev pub position_of : Lookahead → Option (List ℕ) → UnreadPosition
position_of position to_come = record { lookahead = position; to_come = to_come }

-- how many bytes were taken from the device so far
abbrev pub taken_at : UnreadPosition → ℕ
taken_at here = bytes_taken here.lookahead.cursor

-- the next token
abbrev pub next_at : UnreadPosition → LocatedToken
next_at here = here.lookahead.cursor.next

-- the token after it, unless the next is the last
abbrev pub after_at : UnreadPosition → Token
after_at here = here.lookahead.cursor.after.token

abbrev pub scope_at : UnreadPosition → Scope
scope_at here = here.lookahead.scope

-- the tokens from there on, if the device's bytes are known
abbrev pub tokens_at : UnreadPosition → Option (List LocatedToken)
tokens_at here = shown here.lookahead.cursor here.to_come

-- What a contract sees of a scoped cursor: its position, what is known of its device's failures, and which borrows it
-- has, of the names and of the device.
pub record ScopedCursor : Type 0 where
  pub position : UnreadPosition
  pub account : FailureCount
  pub borrows : ℕ × ℕ

-- the next token of a scoped cursor, and the one after it
abbrev pub token_of : ScopedCursor → Token
token_of at = (next_at at.position).token

abbrev pub token_after : ScopedCursor → Token
token_after at = after_at at.position

-- the names that a scoped cursor knows
abbrev pub scope_of : ScopedCursor → Scope
scope_of at = scope_at at.position

-- the names of a file that a scope has
abbrev pub pools_in : Scope → Pools
pools_in scope = record { externals = scope.externals; functions = scope.functions }

-- the same cursor with these names in scope
abbrev pub with_scope : Scope → ScopedCursor → ScopedCursor
with_scope scope at =
    record at
    { position = position_of (record { cursor = at.position.lookahead.cursor; scope = scope }) at.position.to_come }

-- how many more tokens can come at most
abbrev pub to_go : ScopedCursor → ℕ
to_go at = most_left at.position.lookahead.cursor

-- the tokens from there on that a device of unknown bytes may have: the two that were read, and any after them
pub record MayContinue (here : UnreadPosition) (rest : List LocatedToken) : Type 0 where
  pub behind : List LocatedToken
  pub is : rest ≡ followed_by here.lookahead.cursor.next (followed_by here.lookahead.cursor.after behind)
