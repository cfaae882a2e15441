-- What the rest of a source begins with.
use Rattle.std.specs.Prelude.{ℕ, ◌+◌, ◌*◌, ◌-◌, suc, Bool, false, List, [], ◌∷◌, length, take, drop, Option, Some}
use Rattle.std.specs.Prelude.{None, if◌then◌else◌, ◌==◌, ◌&&◌, nat_le, fold}
use Rattle.std.specs.List.{prefix_len}
use Rattle.std.specs.Option.{option_map}
use Rattle.tokens.specs.Characters.{is_blank, is_letter, is_digit, is_name_byte}
use Rattle.tokens.specs.TokenLimits.{most_name_bytes}
use Rattle.tokens.specs.Keywords.{keyword_of}
use Rattle.tokens.specs.Punctuators.{longest_punctuator, spelling}
use Rattle.tokens.specs.declared.located_tokens.Keyword.{Keyword}
use Rattle.tokens.specs.declared.located_tokens.Punctuator.{Punctuator}
use Rattle.tokens.specs.declared.located_tokens.LexicalError.TheVariants.{BadCharacter, NameTooLong, ConstantTooLarge}
use Rattle.tokens.specs.declared.located_tokens.Token.{Token}
use Rattle.tokens.specs.declared.located_tokens.Token.TheVariants as variant

-- with how many bytes it has
pub data InputElement : Type 0 where
  Nothing : InputElement
  Space : (count : ℕ) → InputElement  -- a blank or a comment
  Unclosed : InputElement  -- a comment that isn't closed
  Lexeme : (sign : Token) (count : ℕ) → InputElement

abbrev pub begins_with : ℕ → List ℕ → Bool
begins_with c [] = false
begins_with c (b ∷ rest) = b == c

-- how many bytes, with the first `*/`: 42 and 47
abbrev pub up_to_close : List ℕ → Option ℕ
up_to_close [] = None
up_to_close (b ∷ rest) = if (b == 42) && begins_with 47 rest then Some 2 else option_map suc (up_to_close rest)

-- a comment, given how many bytes after its `/*` close it
abbrev pub comment_element : Option ℕ → InputElement
comment_element None = Unclosed
comment_element (Some count) = Space (suc (suc count))

-- a name, or the keyword that it is
abbrev pub name_or : List ℕ → Option Keyword → Token
name_or name None = variant.Name name
name_or name (Some word) = variant.Keyword word

abbrev pub name_token : List ℕ → Token
name_token name =
    if nat_le (length name) most_name_bytes then name_or name (keyword_of name) else variant.Fault NameTooLong

abbrev pub value_of_digits : List ℕ → ℕ
value_of_digits digits = fold (λ value digit. 10 * value + (digit - 48)) 0 digits

abbrev pub constant_token : List ℕ → Token
constant_token digits =
    if nat_le (value_of_digits digits) 2147483647 then variant.Constant (value_of_digits digits) else variant.Fault
    ConstantTooLarge

-- the longest punctuator, or else a byte that no token begins with
abbrev pub punctuator_element : Option Punctuator → InputElement
punctuator_element None = Lexeme (variant.Fault BadCharacter) 1
punctuator_element (Some m) = Lexeme (variant.Punctuator m) (length (spelling m))

-- the longest prefix of bytes that pass a test, as a token
abbrev pub token_span : (ℕ → Bool) → (List ℕ → Token) → List ℕ → InputElement
token_span test token_of bytes = Lexeme (token_of (take (prefix_len test bytes) bytes)) (prefix_len test bytes)

abbrev pub input_element : List ℕ → InputElement
input_element [] = Nothing
input_element (b ∷ rest) =
    if is_blank b then Space 1
    else (if is_letter b then token_span is_name_byte name_token (b ∷ rest)
    else (if is_digit b then token_span is_digit constant_token (b ∷ rest)
    else (if (b == 47) && begins_with 42 rest then comment_element (up_to_close (drop 1 rest))
    else punctuator_element (longest_punctuator (b ∷ rest)))))
