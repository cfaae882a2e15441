-- What is still to be read, where a token starts or inside of one.
use Rattle.std.specs.Prelude.{ℕ, Bool, true, false, List, [], ◌∷◌, ◌++◌, Option, Some, None, length, take, fold, ◌+◌}
use Rattle.std.specs.Prelude.{◌*◌, ◌-◌, ◌<◌, ◌≤◌, ◌≡◌, ◌≢◌, if◌then◌else◌, nat_le, slice_get, Result, Ok, Err}
use Rattle.std.specs.List.{prefix_len}
use Rattle.std.specs.Option.{option_map}
use Rattle.tokens.specs.Characters.{is_blank, is_name_byte, is_digit}
use Rattle.tokens.specs.Punctuators.{punctuator_of, spelling}
use Rattle.tokens.specs.InputElement.{up_to_close, name_token}
use Rattle.tokens.specs.Tokens.{UnreadSource, is_last, ahead_after_byte, ahead_after, at_end, located, last_located_token}
use Rattle.tokens.specs.Cursors.{FitsToken}
use Rattle.tokens.specs.Tokens.{followed_by, located_tokens}
use Rattle.tokens.specs.Ends.{undecided_until}
use Rattle.tokens.specs.Device.{Device}
use Rattle.tokens.specs.Window.{Window, seen}
use Rattle.tokens.specs.declared.devices.DeviceFault.{DeviceFault}
use Rattle.tokens.specs.declared.located_tokens.Punctuator.{Punctuator}
use Rattle.tokens.specs.declared.located_tokens.LexicalError.TheVariants.{CommentNotClosed, NameTooLong}
use Rattle.tokens.specs.declared.located_tokens.LexicalError.TheVariants.{ConstantTooLarge}
use Rattle.tokens.specs.declared.located_tokens.Token.{Token}
use Rattle.tokens.specs.declared.located_tokens.Token.TheVariants as variant
use Rattle.tokens.specs.declared.located_tokens.LocatedToken.{LocatedToken}

-- what is made of what a window shows, if the device's bytes to come are known
unfoldable pub to_read : (UnreadSource → List LocatedToken) → Window → Option (List ℕ) → Option (List LocatedToken)
to_read made window to_come = option_map made (seen window to_come)

-- a token, and after it those that lie ahead
unfoldable pub followed : LocatedToken → UnreadSource → List LocatedToken
followed located_token ahead = followed_by located_token (located_tokens ahead)

-- after a `/`: from the token that was found there, or after a comment
abbrev pub after_slash : Bool → LocatedToken → UnreadSource → List LocatedToken
after_slash true located_token ahead = followed located_token ahead
after_slash false located_token ahead = located_tokens ahead

-- a token that ends here
abbrev pub token_ending : Token → UnreadSource → LocatedToken
token_ending token ahead = record { token = token; line = ahead.line; end = ahead.offset }

-- inside a token of bytes that pass a test: it is made of those ahead
unfoldable pub in_token_span : (ℕ → Bool) → (List ℕ → Token) → UnreadSource → List LocatedToken
in_token_span test token_of ahead =
    followed (located (token_of (take (prefix_len test ahead.bytes) ahead.bytes)) (prefix_len test ahead.bytes) ahead)
    (ahead_after (prefix_len test ahead.bytes) ahead)

-- the token of a name that goes on, of which these bytes were read and perhaps others left out
abbrev pub name_going_on : List ℕ → Bool → List ℕ → Token
name_going_on name too_long more = if too_long then variant.Fault NameTooLong else name_token (name ++ more)

abbrev pub in_name : List ℕ → Bool → UnreadSource → List LocatedToken
in_name name too_long = in_token_span is_name_byte (name_going_on name too_long)

-- the token of a constant of this value
abbrev pub value_token : ℕ → Token
value_token value = if nat_le value 2147483647 then variant.Constant value else variant.Fault ConstantTooLarge

-- the token of a constant that goes on, whose value is this so far
abbrev pub constant_going_on : ℕ → List ℕ → Token
constant_going_on value more = value_token (fold (λ value digit. 10 * value + (digit - 48)) value more)

abbrev pub in_constant : ℕ → UnreadSource → List LocatedToken
in_constant value = in_token_span is_digit (constant_going_on value)

-- inside a punctuator, which may grow by the bytes ahead
abbrev pub extended : Punctuator → List ℕ → UnreadSource → List LocatedToken
extended punctuator [] ahead = followed (token_ending (variant.Punctuator punctuator) ahead) ahead
extended punctuator (b ∷ rest) ahead = elim (punctuator_of (spelling punctuator ++ b ∷ [])) [
  | None ↦ followed (token_ending (variant.Punctuator punctuator) ahead) ahead
  | Some longer ↦ extended longer rest
      (ahead_after_byte ahead)
]

unfoldable pub in_punctuator : Punctuator → UnreadSource → List LocatedToken
in_punctuator punctuator ahead = extended punctuator ahead.bytes ahead

-- inside a comment that began on this line
abbrev pub closed_at : Option ℕ → ℕ → UnreadSource → List LocatedToken
closed_at None line ahead = last_located_token (variant.Fault CommentNotClosed) line (at_end ahead) ∷ []
closed_at (Some count) line ahead = located_tokens (ahead_after count ahead)

unfoldable pub in_comment : ℕ → UnreadSource → List LocatedToken
in_comment line ahead = closed_at (up_to_close ahead.bytes) line ahead

-- after a comment, or where the source ended within it
abbrev pub after_comment : Bool → ℕ → UnreadSource → List LocatedToken
after_comment true line ahead = located_tokens ahead
after_comment false line ahead = last_located_token (variant.Fault CommentNotClosed) line ahead ∷ []

-- no more was taken than may leave the first token undecided that is to be read
abbrev pub StopsWithin : (UnreadSource → List LocatedToken) → Window → Window → Option (List ℕ) → Type 0
StopsWithin made old new to_come = (first : LocatedToken) (others : List LocatedToken)
    → to_read made old to_come ≡ Some (first ∷ others) → new.taken ≤ undecided_until first

-- what a call leaves that failed: that, and the old token
pub record LeavesUnread (made : UnreadSource → List LocatedToken) (old new : Window) (to_come : Option (List ℕ))
    (here here' : LocatedToken) : Type 0 where
  pub within : StopsWithin made old new to_come
  pub unread : here' ≡ here

-- the next byte begins a token, and no comment
pub record BeginsToken (byte : ℕ) (window : Window) : Type 0 where
  pub first : slice_get window.at_hand 0 ≡ Some byte
  pub no_blank : is_blank byte ≡ false
  pub no_slash : byte ≢ 47

-- a token ends at the window's offset or after it, and fits
pub record IsFound (located_token : LocatedToken) (new : Window) : Type 0 where
  pub reached : new.offset ≤ located_token.end
  pub fits : FitsToken located_token.token

-- the same, and the window went on if this is not the last token
pub record IsRead (located_token : LocatedToken) (old new : Window) : Type 0 where
  pub progress : is_last located_token.token ≡ false → old.offset < new.offset
  pub reached : new.offset ≤ located_token.end
  pub fits : FitsToken located_token.token

-- A token was found from inside of it: it is the first of those that were to be read, and the others follow it.
pub record Finds (inside : UnreadSource → List LocatedToken) (old new : Window) (before after : Device)
    (here : LocatedToken)
    : Type 0 where
  pub tokens : to_read (followed here) new after.to_come ≡ to_read inside old before.to_come
  pub found : IsFound here new

-- the same from its beginning
pub record ReadsOne (old new : Window) (before after : Device) (here : LocatedToken) : Type 0 where
  pub tokens : to_read (followed here) new after.to_come ≡ to_read located_tokens old before.to_come
  pub read : IsRead here old new

-- what a call leaves that finds a token from inside of it, or fails
abbrev pub FindsToken : {T : Type 0} → Result T DeviceFault → (UnreadSource → List LocatedToken) → (old new : Window)
    → (before after : Device) → (here here' : LocatedToken) → Type 0
FindsToken (Ok x) inside old new before after here here' = Finds inside old new before after here'
FindsToken (Err e) inside old new before after here here' = LeavesUnread inside old new before.to_come here here'

-- what a call leaves that reads the next token, or fails
abbrev pub ReadsToken : {T : Type 0} → Result T DeviceFault → (old new : Window) → (before after : Device)
    → (here here' : LocatedToken) → Type 0
ReadsToken (Ok x) old new before after here here' = ReadsOne old new before after here'
ReadsToken (Err e) old new before after here here' = LeavesUnread located_tokens old new before.to_come here here'

-- A call that was at a `/`: it found a token, or went past a comment and put none.
pub record ReadsSlash (found : Bool) (old new : Window) (to_come to_come' : Option (List ℕ)) (here here' : LocatedToken)
    :
    Type 0
  where
    pub tokens : to_read (after_slash found here') new to_come' ≡ to_read located_tokens old to_come
    pub token : found ≡ true → IsFound here' new
    pub unread : found ≡ false → here' ≡ here

-- a name that begins with a byte and goes on with the rest, in which it ends
pub record BeginsName (first : ℕ) (rest name : List ℕ) : Type 0 where
  pub is : name ≡ first ∷ take (prefix_len is_name_byte rest) rest
  pub ended : prefix_len is_name_byte rest < length rest

-- the value of a constant that begins with a digit and has n more of the rest, in which it ends
pub record BeginsConstant (first : ℕ) (rest : List ℕ) (value count : ℕ) : Type 0 where
  pub is : value ≡ fold (λ value digit. 10 * value + (digit - 48)) (first - 48) (take count rest)
  pub fits : value ≤ 2147483647
  pub digits : count ≡ prefix_len is_digit rest
  pub ended : count < length rest

-- the punctuator of a byte, with which no longer one begins
pub record IsOfSingleByte (b : ℕ) (punctuator : Punctuator) : Type 0 where
  pub is : punctuator_of (b ∷ []) ≡ Some punctuator
  pub ends : (next : ℕ) → punctuator_of (spelling punctuator ++ next ∷ []) ≡ None

-- no longer punctuator begins with this one, before this byte, or before any if it is not known
abbrev pub EndsBefore : Punctuator → Option ℕ → Type 0
EndsBefore punctuator (Some b) = punctuator_of (spelling punctuator ++ b ∷ []) ≡ None
EndsBefore punctuator None = (b : ℕ) → punctuator_of (spelling punctuator ++ b ∷ []) ≡ None
