-- The tokens of a source.
use Rattle.std.specs.Prelude.{ℕ, zero, suc, ◌+◌, Bool, true, false, List, [], ◌∷◌, length, take, if◌then◌else◌}
use Rattle.std.specs.Prelude.{◌==◌, nat_lt}
use Rattle.tokens.specs.TokenLimits.{most_source_bytes}
use Rattle.tokens.specs.Source.{source}
use Rattle.tokens.specs.InputElement.{InputElement, Nothing, Space, Unclosed, Lexeme, input_element}
use Rattle.tokens.specs.declared.located_tokens.LexicalError.TheVariants.{CommentNotClosed, SourceTooLong}
use Rattle.tokens.specs.declared.located_tokens.Token.{Token}
use Rattle.tokens.specs.declared.located_tokens.Token.TheVariants as variant
use Rattle.tokens.specs.declared.located_tokens.LocatedToken.{LocatedToken}

-- the last token is a lexical error, or else the end
abbrev pub is_last : Token → Bool
is_last variant.End = true
is_last (variant.Fault lexical_error) = true
is_last token = false

-- what lies ahead in a source
pub record UnreadSource : Type 0 where
  pub line : ℕ  -- the line that it begins on
  pub offset : ℕ
  pub bytes : List ℕ  -- up to the limit
  pub too_long : Bool  -- whether the source goes on after that

-- byte 10 ends a line
abbrev pub line_after : ℕ → ℕ → ℕ
line_after b line = if b == 10 then line + 1 else line

-- one byte further, or this many
abbrev pub ahead_after_byte : UnreadSource → UnreadSource
ahead_after_byte ahead = go ahead.bytes
  where
    go : List ℕ → UnreadSource
    go [] = ahead
    go (b ∷ rest) = record ahead {
      line = line_after b ahead.line;
      offset = ahead.offset + 1;
      bytes = rest;
    }

abbrev pub ahead_after : ℕ → UnreadSource → UnreadSource
ahead_after zero ahead = ahead
ahead_after (suc n) ahead = ahead_after n (ahead_after_byte ahead)

abbrev pub at_end : UnreadSource → UnreadSource
at_end ahead = ahead_after (length ahead.bytes) ahead

-- the last token, at the end of the source: this one, unless the source is too long
abbrev pub last_located_token : Token → ℕ → UnreadSource → LocatedToken
last_located_token token line end =
    if end.too_long then record { token = variant.Fault SourceTooLong; line = end.line; end = end.offset + 1 }
    else record { token = token; line = line; end = end.offset }

-- the last token if no other is left
abbrev pub end_token : Token → UnreadSource → LocatedToken
end_token token ahead = last_located_token token ahead.line (at_end ahead)

-- a token of this many bytes
abbrev pub located : Token → ℕ → UnreadSource → LocatedToken
located token count ahead = record { token = token; line = ahead.line; end = ahead.offset + count }

-- a token, and unless it is the last, those after it
abbrev pub followed_by : LocatedToken → List LocatedToken → List LocatedToken
followed_by located_token others = located_token ∷ (if is_last located_token.token then [] else others)

-- the tokens of an input element, and then others
abbrev pub tokens_of_element : InputElement → UnreadSource → (UnreadSource → List LocatedToken) → List LocatedToken
tokens_of_element Nothing ahead others = end_token variant.End ahead ∷ []
tokens_of_element Unclosed ahead others = end_token (variant.Fault CommentNotClosed) ahead ∷ []
tokens_of_element (Space count) ahead others = others (ahead_after count ahead)
tokens_of_element (Lexeme sign count) ahead others =
    followed_by (located sign count ahead) (others (ahead_after count ahead))

-- the tokens of at most this many input elements
abbrev pub tokens_within : ℕ → UnreadSource → List LocatedToken
tokens_within zero ahead = []
tokens_within (suc n) ahead = tokens_of_element (input_element ahead.bytes) ahead (tokens_within n)

-- each input element has at least a byte, but for the end
unfoldable pub located_tokens : UnreadSource → List LocatedToken
located_tokens ahead = tokens_within (suc (length ahead.bytes)) ahead

abbrev pub ahead_of_source : List ℕ → UnreadSource
ahead_of_source bytes = record {
  line = 1;
  offset = 0;
  bytes = take most_source_bytes bytes;
  too_long = nat_lt most_source_bytes (length bytes);
}

unfoldable pub tokens : List ℕ → List LocatedToken
tokens bytes = located_tokens (ahead_of_source (source bytes))
