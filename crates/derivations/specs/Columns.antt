-- Where the tokens of a source begin: on their lines, and after the blanks and comments behind the token before.
use Rattle.std.specs.Prelude.{ℕ, zero, suc, ◌+◌, ◌-◌, Bool, true, false, List, [], ◌∷◌, length, take, drop, min, slice_range, if◌then◌else◌}
use Rattle.std.specs.Prelude.{◌==◌}
use Rattle.tokens.specs.InputElement.{InputElement, Space, input_element}
use Rattle.tokens.specs.Tokens.{tokens}
use Rattle.tokens.specs.declared.located_tokens.LexicalError.TheVariants.{BadCharacter, SourceTooLong}
use Rattle.tokens.specs.declared.located_tokens.LocatedToken.{LocatedToken}
use Rattle.tokens.specs.declared.located_tokens.Token.{Token}
use Rattle.tokens.specs.declared.located_tokens.Token.TheVariants.{Fault}
use Rattle.derivations.specs.declared.addresses.SourcePosition.{SourcePosition}

-- how many bytes a blank or a comment has: any other element has none before a token
abbrev pub blank_length : InputElement → ℕ
blank_length (Space count) = count
blank_length element = 0

-- how many bytes at most n blanks and comments have, one after another, with which these bytes begin
abbrev pub blanks_within : ℕ → List ℕ → ℕ
blanks_within zero bytes = 0
blanks_within (suc n) bytes =
    blank_length (input_element bytes) + blanks_within n (drop (blank_length (input_element bytes)) bytes)

-- each of them has at least a byte
abbrev pub blanks : List ℕ → ℕ
blanks bytes = blanks_within (length bytes) bytes

-- the lexical error of a single byte
abbrev pub is_of_byte : Token → Bool
is_of_byte (Fault BadCharacter) = true
is_of_byte (Fault SourceTooLong) = true
is_of_byte token = false

-- the offset at which a token begins, given that at which the token before it ends
abbrev pub start_of : List ℕ → ℕ → LocatedToken → ℕ
start_of bytes behind t =
    if is_of_byte t.token then t.end - 1 else behind + blanks (slice_range bytes behind t.end)

-- byte 10 ends a line
abbrev pub column_after : ℕ → ℕ → ℕ
column_after b column = if b == 10 then 1 else column + 1

-- the column behind these bytes
abbrev pub column_past : List ℕ → ℕ → ℕ
column_past [] column = column
column_past (b ∷ rest) column = column_past rest (column_after b column)

-- the column of an offset, in bytes, from 1: at most the greatest number of 32 bits
abbrev pub column_at : List ℕ → ℕ → ℕ
column_at bytes offset = min (column_past (take offset bytes) 1) 4294967295

abbrev pub position_in : List ℕ → ℕ → LocatedToken → SourcePosition
position_in bytes behind t = record { line = t.line; column = column_at bytes (start_of bytes behind t) }

-- the positions of tokens, the first of which comes behind this offset
abbrev pub positions_behind : List ℕ → ℕ → List LocatedToken → List SourcePosition
positions_behind bytes behind [] = []
positions_behind bytes behind (t ∷ ts) = position_in bytes behind t ∷ positions_behind bytes t.end ts

-- the positions of a source's tokens
abbrev pub token_positions : List ℕ → List SourcePosition
token_positions bytes = positions_behind bytes 0 (tokens bytes)
