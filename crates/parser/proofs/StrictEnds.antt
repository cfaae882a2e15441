-- Tokens end strictly one after the other, but for the source's end, and none follows the last.
use Rattle.std.proofs.Common.{◌≡◌, ℕ, zero, suc, ◌+◌, ◌<◌, ◌≤◌, Bool, true, false, cond, List, [], ◌∷◌, ◌++◌, length, take, refl, ap, arith, subst, length-take}
use Rattle.tokens.specs.Ends.{AllEndBy}
use Rattle.tokens.specs.Cursors.{reach_of}
use Rattle.tokens.specs.Source.{source}
use Rattle.tokens.specs.InputElement.{InputElement, Nothing, Space, Unclosed, Lexeme, input_element}
use Rattle.tokens.specs.Tokens.{UnreadSource, ahead_after, at_end, last_located_token, is_last, tokens_within, tokens_of_element, located_tokens, ahead_of_source, tokens}
use Rattle.tokens.specs.declared.located_tokens.LexicalError.TheVariants.{CommentNotClosed}
use Rattle.tokens.specs.declared.located_tokens.Token.TheVariants as variant
use Rattle.tokens.specs.declared.located_tokens.LocatedToken.{LocatedToken}
use Rattle.tokens.proofs.EndLemmas.{IsInside, tokens_within-by, input_element-inside, over, offset-inside}
use Rattle.tokens.proofs.LocatedTokensLemmas.{IsPiece, input_element-is_piece, here}
use Rattle.tokens.proofs.TakenLemmas.{offset-ahead_after}
use Rattle.grammar.specs.Derivation.{is_end}

-- each token ends after this offset and after the one ahead of it, the source's end perhaps with it; the last is last
abbrev pub IsCut : ℕ → List LocatedToken → Type 0
IsCut offset [] = Unit {0}
IsCut offset (x ∷ others) =
    (offset ≤ x.end) ×
    ((is_end x.token ≡ false → offset < x.end) × ((is_last x.token ≡ true → others ≡ []) × IsCut x.end others))

cut_sooner : (p q : ℕ) (xs : List LocatedToken) → q ≤ p → IsCut p xs → IsCut q xs
cut_sooner p q [] h r = tt
cut_sooner p q (x ∷ xs) h r = (omega (arith, h, r.0), ((λ other. omega (arith, h, r.1.0 other)), r.1.1))

-- The last token.

-- the source's end
closing_end : (offset line : ℕ) (end : UnreadSource) → offset ≤ end.offset →
    IsCut offset (last_located_token variant.End line end ∷ [])
closing_end offset line end h = by end.too_long
  where
    by : (t : Bool) → IsCut offset (last_located_token variant.End line (here end.line end.offset end.bytes t) ∷ [])
    by true = (omega (arith, h), ((λ other. omega (arith, h)), ((λ last. refl), tt)))
    by false = (h, ((λ other. absurd (cc)), ((λ last. refl), tt)))

-- a comment that is open there, of which something was passed
closing_open : (offset line : ℕ) (end : UnreadSource) → offset < end.offset →
    IsCut offset (last_located_token (variant.Fault CommentNotClosed) line end ∷ [])
closing_open offset line end h = by end.too_long
  where
    by : (t : Bool) →
        IsCut offset
        (last_located_token (variant.Fault CommentNotClosed) line (here end.line end.offset end.bytes t) ∷ [])
    by true = (omega (arith, h), ((λ other. omega (arith, h)), ((λ last. refl), tt)))
    by false = (omega (arith, h), ((λ other. h), ((λ last. refl), tt)))

-- All tokens.

cut_strictly : (n line offset : ℕ) (bytes : List ℕ) (too_long : Bool) →
    IsCut offset (tokens_within n (here line offset bytes too_long))
cut_strictly zero line offset bytes t = tt
cut_strictly (suc n) line offset [] t =
    closing_end offset line (at_end (here line offset [] t)) (offset-ahead_after 0 (here line offset [] t))
cut_strictly (suc n) line offset (b ∷ bytes) t =
    by (input_element (b ∷ bytes)) (input_element-inside (b ∷ bytes)) (input_element-is_piece (b ∷ bytes)) (λ count.
    let p = ahead_after count a in cut_strictly n p.line p.offset p.bytes p.too_long)
  where
    a : UnreadSource
    a = here line offset (b ∷ bytes) t

    end_is : (at_end a).offset ≡ offset + length (b ∷ bytes)
    end_is = offset-inside (length (b ∷ bytes)) a (omega arith)

    followed : (last : Bool) (p : ℕ) (xs : List LocatedToken) → IsCut p xs → IsCut p (cond last [] xs)
    followed true p xs r = tt
    followed false p xs r = r

    alone : (last : Bool) (xs : List LocatedToken) → last ≡ true → cond last [] xs ≡ []
    alone last xs e = rw e refl

    by : (f : InputElement) → IsInside (b ∷ bytes) f → IsPiece f →
        ((count : ℕ) → IsCut (ahead_after count a).offset (tokens_within n (ahead_after count a))) →
        IsCut offset (tokens_of_element f a (tokens_within n))
    by Nothing i p h = closing_end offset line (at_end a) (omega (arith, end_is))
    by Unclosed i p h = closing_open offset line (at_end a) (omega (arith, end_is))
    by (Space count) i p h = cut_sooner _ _ _ (offset-ahead_after count a) (h count)
    by (Lexeme sign count) i p h = (
      omega arith,
      (
        (λ other. omega (arith, p)),
        (
          (λ last. alone (is_last sign) _ last),
          followed (is_last sign) (offset + count) _
              (subst (λ (q : ℕ). IsCut q (tokens_within n (ahead_after count a))) (offset-inside count a i) (h count)),
        ),
      ),
    )

pub tokens_cut : (bytes : List ℕ) → IsCut 0 (tokens bytes)
unfolding tokens located_tokens
tokens_cut bytes =
    let a = ahead_of_source (source bytes) in
    cut_strictly (suc (length a.bytes)) a.line a.offset a.bytes a.too_long

-- The tokens after some of them.

pub record IsCutBehind (rest : List LocatedToken) : Type 0 where
  pub position : ℕ
  pub is : IsCut position rest

pub cut_behind : (offset : ℕ) (before rest : List LocatedToken) → IsCut offset (before ++ rest) → IsCutBehind rest
cut_behind offset [] rest h = record { position = offset; is = h }
cut_behind offset (x ∷ before) rest h = cut_behind x.end before rest h.1.1.1

-- No token ends after the longest source and one byte more.

reach_by : (limit : ℕ) (xs : List LocatedToken) → AllEndBy limit xs → reach_of xs ≤ limit
reach_by limit [] h = omega arith
reach_by limit (x ∷ []) h = h.0
reach_by limit (x ∷ y ∷ xs) h = h.1.0

pub reach_limited : (bytes : List ℕ) → reach_of (tokens bytes) ≤ 1048577
unfolding tokens located_tokens
reach_limited bytes =
    let a = ahead_of_source (source bytes) in
    reach_by 1048577 (tokens_within (suc (length a.bytes)) a)
    (tokens_within-by (suc (length a.bytes)) 1048577 a (within a.too_long refl))
  where
    within : (t : Bool) → (ahead_of_source (source bytes)).too_long ≡ t →
        0 + length (take 1048576 (source bytes)) + over (ahead_of_source (source bytes)).too_long ≤ 1048577
    within true e = omega (arith, length-take 1048576 (source bytes), ap over e)
    within false e = omega (arith, length-take 1048576 (source bytes), ap over e)
