-- The tokens of a source end with one that is the last.
use Rattle.std.proofs.Common.{◌≡◌, ℕ, zero, suc, ◌<◌, List, [], ◌∷◌, length, refl, Bool, true, false, cond, arith}
use Rattle.tokens.specs.Source.{source}
use Rattle.tokens.specs.InputElement.{InputElement, Nothing, Space, Unclosed, Lexeme, input_element}
use Rattle.tokens.specs.Tokens.{UnreadSource, at_end, ahead_after, located, is_last, tokens_within, tokens_of_element, located_tokens, ahead_of_source, tokens}
use Rattle.tokens.specs.declared.located_tokens.LexicalError.TheVariants.{CommentNotClosed}
use Rattle.tokens.specs.declared.located_tokens.LocatedToken.{LocatedToken}
use Rattle.tokens.specs.declared.located_tokens.Token.TheVariants as token
use Rattle.tokens.proofs.LocatedTokensLemmas.{IsPiece, input_element-is_piece, length-ahead_after, here}
use Rattle.tokens.proofs.BeginLemmas.{last-is_last}

abbrev pub EndsWithLast : List LocatedToken → Type 0
EndsWithLast [] = ⊥
EndsWithLast (located_token ∷ []) = is_last located_token.token ≡ true
EndsWithLast (located_token ∷ other ∷ rest) = EndsWithLast (other ∷ rest)

in_front : (located_token : LocatedToken) (others : List LocatedToken) → EndsWithLast others →
    EndsWithLast (located_token ∷ others)
in_front located_token [] h = absurd h
in_front located_token (other ∷ others) h = h

cut_ends : (n line offset : ℕ) (bytes : List ℕ) (too_long : Bool) → length bytes < n →
    EndsWithLast (tokens_within n (here line offset bytes too_long))
cut_ends zero line offset bytes t h = absurd (omega (arith, h))
cut_ends (suc n) line offset [] t h = last-is_last token.End line (at_end (here line offset [] t)) refl
cut_ends (suc n) line offset (b ∷ bytes) t h =
    by (input_element (b ∷ bytes)) (input_element-is_piece (b ∷ bytes)) (λ count c.
    let p = ahead_after count a in
    let e = length-ahead_after count a in
    cut_ends n p.line p.offset p.bytes p.too_long (omega (arith, e, h, c)))
  where
    a : UnreadSource
    a = here line offset (b ∷ bytes) t

    followed : (located_token : LocatedToken) (others : List LocatedToken) (last : Bool) →
        is_last located_token.token ≡ last → EndsWithLast others → EndsWithLast (located_token ∷ cond last [] others)
    followed located_token others true e h = e
    followed located_token others false e h = in_front located_token others h

    by : (f : InputElement) → IsPiece f →
        ((count : ℕ) → 0 < count → EndsWithLast (tokens_within n (ahead_after count a))) →
        EndsWithLast (tokens_of_element f a (tokens_within n))
    by Nothing p each = last-is_last token.End line (at_end a) refl
    by Unclosed p each = last-is_last (token.Fault CommentNotClosed) line (at_end a) refl
    by (Space count) p each = each count p
    by (Lexeme sign count) p each =
        followed (located sign count a) (tokens_within n (ahead_after count a)) (is_last sign) refl (each count p)

pub tokens_end : (bytes : List ℕ) → EndsWithLast (tokens bytes)
unfolding tokens located_tokens
tokens_end bytes =
    let a = ahead_of_source (source bytes) in
    cut_ends (suc (length a.bytes)) a.line a.offset a.bytes a.too_long (omega arith)
