-- Small sources and their tokens.
use Rattle.std.specs.Prelude.{◌≡◌, ℕ, [], ◌∷◌, ◌++◌, codes}
use Rattle.tokens.specs.declared.located_tokens.Punctuator.TheVariants as punctuator
use Rattle.tokens.specs.declared.located_tokens.Keyword.TheVariants as keyword
use Rattle.tokens.specs.declared.located_tokens.LexicalError.TheVariants as lexical_error
use Rattle.tokens.specs.declared.located_tokens.Token.{Token}
use Rattle.tokens.specs.declared.located_tokens.Token.TheVariants as token
use Rattle.tokens.specs.declared.located_tokens.LocatedToken.{LocatedToken}
use Rattle.tokens.specs.Tokens.{tokens}

-- a token, its line, and how many bytes there are up to its last one
abbrev pub located_token : Token → ℕ → ℕ → LocatedToken
located_token t n e = record { token = t; line = n; end = e }

pub record KnownTokens : Type 0 where
  pub nothing : tokens [] ≡ located_token token.End 1 0 ∷ []
  pub longest_match : tokens (codes "a+++b")
      ≡ located_token (token.Name (codes "a")) 1 1 ∷ located_token (token.Punctuator punctuator.PlusPlus) 1 3
      ∷ located_token (token.Punctuator punctuator.Plus) 1 4
      ∷ located_token (token.Name (codes "b")) 1 5 ∷ located_token token.End 1 5 ∷ []
  pub three_bytes : tokens (codes "<<= ! =")
      ≡ located_token (token.Punctuator punctuator.ShiftLeftEquals) 1 3
      ∷ located_token (token.Punctuator punctuator.Not) 1 5
      ∷ located_token (token.Punctuator punctuator.Equals) 1 7 ∷ located_token token.End 1 7 ∷ []
  pub comments : tokens (codes "/*/ if */ /***/ if/0")
      ≡ located_token (token.Keyword keyword.If) 1 18 ∷ located_token (token.Punctuator punctuator.Slash) 1 19
      ∷ located_token (token.Constant 0) 1 20 ∷ located_token token.End 1 20 ∷ []
  pub not_closed : tokens (10 ∷ codes "/*/" ++ 10 ∷ [])
      ≡ located_token (token.Fault lexical_error.CommentNotClosed) 2 5 ∷ []
  pub byte_26 : tokens (codes "int/*" ++ 26 ∷ codes "*/")
      ≡
      located_token (token.Keyword keyword.Type) 1 3 ∷ located_token (token.Fault lexical_error.CommentNotClosed) 1 5 ∷
      []
  pub lines : tokens (10 ∷ 13 ∷ 10 ∷ codes "7" ++ 10 ∷ [])
      ≡ located_token (token.Constant 7) 3 4 ∷ located_token token.End 4 5 ∷ []
  pub largest_constant : tokens (codes "0002147483647 2147483648;")
      ≡ located_token (token.Constant 2147483647) 1 13
      ∷ located_token (token.Fault lexical_error.ConstantTooLarge) 1 24 ∷ []
  pub longest_name : tokens (codes "_234567890123456789012345678901 _2345678901234567890123456789012;")
      ≡ located_token (token.Name (codes "_234567890123456789012345678901")) 1 31
      ∷ located_token (token.Fault lexical_error.NameTooLong) 1 64 ∷ []
  pub bad_character : tokens (200 ∷ 59 ∷ []) ≡ located_token (token.Fault lexical_error.BadCharacter) 1 1 ∷ []
