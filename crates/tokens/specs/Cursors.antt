-- What a cursor is: the next token, the one after it, and the window over what follows them.
use Rattle.std.specs.Prelude.{ℕ, ◌+◌, ◌-◌, ◌<◌, ◌≤◌, ◌≡◌, Bool, List, [], ◌∷◌, Option, drop, if◌then◌else◌}
use Rattle.std.specs.Option.{option_map}
use Rattle.tokens.specs.TokenLimits.{most_source_bytes}
use Rattle.tokens.specs.WindowLimits.{most_taken_bytes, most_tokens, window_bytes}
use Rattle.tokens.specs.Tokens.{is_last, located_tokens, followed_by, tokens}
use Rattle.tokens.specs.Ends.{undecided_until}
use Rattle.tokens.specs.Window.{Window, KnowsEnd, ahead}
use Rattle.tokens.specs.declared.located_tokens.LocatedToken.{LocatedToken}
use Rattle.tokens.specs.declared.windows.Beyond.{Beyond}
use Rattle.tokens.specs.declared.located_tokens.Token.TheVariants as variant
use Rattle.tokens.specs.declared.located_tokens.Token.{Token}

-- a constant is within its limit
abbrev pub FitsToken : Token → Type 0
FitsToken (variant.Constant value) = value ≤ 2147483647
FitsToken (variant.Name name) = Unit {0}
FitsToken (variant.Keyword word) = Unit {0}
FitsToken (variant.Punctuator punctuator) = Unit {0}
FitsToken variant.End = Unit {0}
FitsToken (variant.Fault lexical_error) = Unit {0}

pub record Cursor : Type 0 where
  pub next : LocatedToken
  pub after : LocatedToken
  pub window : Window

-- the tokens after those two, given the device's bytes to come
unfoldable pub tokens_after_lookahead : Window → List ℕ → List LocatedToken
tokens_after_lookahead behind to_come = located_tokens (ahead behind to_come)

-- the tokens from the next one on, if the device's bytes to come are known
abbrev pub shown : Cursor → Option (List ℕ) → Option (List LocatedToken)
shown cursor to_come = option_map (λ to_come. followed_by cursor.next
    (followed_by cursor.after (tokens_after_lookahead cursor.window to_come))) to_come

-- how many more tokens can come at most, whatever the device gives
unfoldable pub most_left : Cursor → ℕ
most_left cursor =
    if is_last cursor.next.token then 0
    else (if is_last cursor.after.token then 1 else 2 + (most_source_bytes - cursor.window.offset))

-- how many bytes were taken from the device so far
abbrev pub bytes_taken : Cursor → ℕ
bytes_taken cursor = cursor.window.taken

-- what is known of the source after the bytes taken
abbrev pub beyond : Cursor → Beyond
beyond cursor = cursor.window.beyond

-- the end of the two tokens that are held
abbrev pub reach : Cursor → ℕ
reach cursor = if is_last cursor.next.token then cursor.next.end else cursor.after.end

-- this many bytes end at most a window after the tokens that are held
abbrev pub IsNearTo : Cursor → ℕ → Type 0
IsNearTo cursor count = count ≤ reach cursor + window_bytes

-- no more bytes were taken than that
abbrev pub IsNear : Cursor → Type 0
IsNear cursor = IsNearTo cursor (bytes_taken cursor)

-- the end of the second of these tokens, or of the first if it is the last
abbrev pub reach_of : List LocatedToken → ℕ
reach_of [] = 0
reach_of (next ∷ []) = next.end
reach_of (next ∷ after ∷ others) = after.end

-- the most bytes that may leave the second of these tokens undecided, or the first if it is the last
abbrev pub undecided_reach_of : List LocatedToken → ℕ
undecided_reach_of [] = 0
undecided_reach_of (next ∷ []) = undecided_until next
undecided_reach_of (next ∷ after ∷ others) = undecided_until after

-- A cursor was opened: it shows the tokens of the bytes that the device had to give, and no more than the most can
-- come. The device has still to give all but the bytes taken, which are no more than a window after the two tokens,
-- and than the most. If it has ended, the cursor knows.
pub record OpensCursor (cursor : Cursor) (to_come to_come' : Option (List ℕ)) (ended : Bool) : Type 0 where
  pub tokens : shown cursor to_come' ≡ option_map tokens to_come
  pub bounded : most_left cursor ≤ most_tokens
  pub took : to_come' ≡ option_map (drop (bytes_taken cursor)) to_come
  pub near : IsNear cursor
  pub limited : bytes_taken cursor ≤ most_taken_bytes
  pub known : KnowsEnd (beyond cursor) ended

-- a cursor went past a token: it shows those after it, fewer can come, and it is near if it was
pub record AdvancesCursor (old new : Cursor) (to_come to_come' : Option (List ℕ)) : Type 0 where
  pub tokens : shown new to_come' ≡ option_map (drop 1) (shown old to_come)
  pub progress : most_left new < most_left old
  pub near : IsNear old → IsNear new
