-- Where tokens end, and what decides them.
use Rattle.std.specs.Prelude.{ℕ, ◌-◌, ◌≤◌, Bool, true, false, List, [], ◌∷◌, if◌then◌else◌}
use Rattle.tokens.specs.declared.located_tokens.LexicalError.{LexicalError}
use Rattle.tokens.specs.declared.located_tokens.LexicalError.TheVariants as error
use Rattle.tokens.specs.declared.located_tokens.Token.{Token}
use Rattle.tokens.specs.declared.located_tokens.Token.TheVariants as variant
use Rattle.tokens.specs.declared.located_tokens.LocatedToken.{LocatedToken}

-- no token ends before this offset, or before the end of the one that precedes it
abbrev pub IsRising : ℕ → List LocatedToken → Type 0
IsRising offset [] = Unit {0}
IsRising offset (located_token ∷ others) = (offset ≤ located_token.end) × IsRising located_token.end others

-- each token ends at this offset or before
abbrev pub AllEndBy : ℕ → List LocatedToken → Type 0
AllEndBy offset [] = Unit {0}
AllEndBy offset (located_token ∷ others) = (located_token.end ≤ offset) × AllEndBy offset others

-- whether its own last byte decides a lexical error
abbrev pub ends_itself : LexicalError → Bool
ends_itself error.BadCharacter = true
ends_itself error.SourceTooLong = true
ends_itself error.CommentNotClosed = false
ends_itself error.NameTooLong = false
ends_itself error.ConstantTooLarge = false

-- Whether its own last byte decides a token: a bad character, and that the source is too long. Any other token may need
-- the byte after it, or the source's end.
abbrev pub is_decided_by_last_byte : Token → Bool
is_decided_by_last_byte (variant.Fault lexical_error) = ends_itself lexical_error
is_decided_by_last_byte (variant.Name name) = false
is_decided_by_last_byte (variant.Keyword word) = false
is_decided_by_last_byte (variant.Constant value) = false
is_decided_by_last_byte (variant.Punctuator punctuator) = false
is_decided_by_last_byte variant.End = false

-- the most bytes of a source that may leave this token undecided
abbrev pub undecided_until : LocatedToken → ℕ
undecided_until located_token =
    if is_decided_by_last_byte located_token.token then located_token.end - 1 else located_token.end

-- the most bytes of a source that may leave the last of its tokens undecided
abbrev pub last_undecided_until : List LocatedToken → ℕ
last_undecided_until [] = 0
last_undecided_until (located_token ∷ []) = undecided_until located_token
last_undecided_until (located_token ∷ other ∷ others) = last_undecided_until (other ∷ others)

-- each token is undecided at this offset, or at the end of the one that precedes it
abbrev pub StaysUndecided : ℕ → List LocatedToken → Type 0
StaysUndecided offset [] = Unit {0}
StaysUndecided offset (located_token ∷ others) =
    (offset ≤ undecided_until located_token) × StaysUndecided located_token.end others
