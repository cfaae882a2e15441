-- The laws of the tokens of what lies ahead: a blank or a comment is skipped, a token is given.
use Rattle.std.proofs.Common.{◌≡◌, ℕ, zero, suc, ◌+◌, ◌-◌, ◌<◌, Bool, true, false, cond, Option, Some, None, List, [], ◌∷◌, length, drop, refl, sym, ap, subst, arith, lit<}
use Rattle.std.specs.Prelude.{◌||◌}
use Rattle.std.specs.List.{prefix_len}
use Rattle.tokens.specs.Characters.{is_blank, is_letter, is_digit, is_name_byte}
use Rattle.tokens.specs.Punctuators.{longest_punctuator}
use Rattle.tokens.specs.InputElement.{InputElement, Nothing, Space, Unclosed, Lexeme, input_element, token_span, comment_element, punctuator_element, up_to_close, name_token, constant_token}
use Rattle.tokens.specs.Tokens.{UnreadSource, ahead_after_byte, ahead_after, located, followed_by, tokens_within, tokens_of_element, located_tokens}
use Rattle.tokens.specs.declared.located_tokens.Punctuator.{Punctuator}
use Rattle.tokens.specs.declared.located_tokens.Token.{Token}
use Rattle.tokens.specs.declared.located_tokens.LocatedToken.{LocatedToken}
use Rattle.tokens.proofs.PunctuatorLemmas.{spelling-nonempty}

abbrev pub here : ℕ → ℕ → List ℕ → Bool → UnreadSource
here line offset bytes too_long = record { line = line; offset = offset; bytes = bytes; too_long = too_long }

-- what is true of a source of these bytes
pub with_bytes : (P : UnreadSource → Type 0) (a : UnreadSource) (xs : List ℕ) → a.bytes ≡ xs →
    P (here a.line a.offset xs a.too_long) → P a
with_bytes P a xs e p = subst (λ (ys : List ℕ). P (here a.line a.offset ys a.too_long)) (sym e) p

-- an input element has at least one byte
abbrev pub IsPiece : InputElement → Type 0
IsPiece Nothing = Unit {0}
IsPiece Unclosed = Unit {0}
IsPiece (Space count) = 0 < count
IsPiece (Lexeme sign count) = 0 < count

punctuator_element-is_piece : (m : Option Punctuator) → IsPiece (punctuator_element m)
punctuator_element-is_piece None = lit< tt
punctuator_element-is_piece (Some m) = spelling-nonempty m

comment_element-is_piece : (n : Option ℕ) → IsPiece (comment_element n)
comment_element-is_piece None = tt
comment_element-is_piece (Some n) = omega arith

token_span-is_piece : (test : ℕ → Bool) (f : List ℕ → Token) (b : ℕ) (rest : List ℕ) → test b ≡ true →
    IsPiece (token_span test f (b ∷ rest))
token_span-is_piece test f b rest e = by (test b) e
  where
    by : (t : Bool) → t ≡ true → 0 < cond t (1 + prefix_len test rest) 0
    by true e = omega arith
    by false e = absurd cc

either-is_piece : (t : Bool) (x y : InputElement) → (t ≡ true → IsPiece x) → (t ≡ false → IsPiece y) →
    IsPiece (cond t x y)
either-is_piece true x y f g = f refl
either-is_piece false x y f g = g refl

pub letter-is_name_byte : (b : ℕ) → is_letter b ≡ true → is_name_byte b ≡ true
letter-is_name_byte b e = by (is_letter b) e
  where
    by : (t : Bool) → t ≡ true → (t || is_digit b) ≡ true
    by true e = refl
    by false e = absurd cc

pub input_element-is_piece : (bytes : List ℕ) → IsPiece (input_element bytes)
input_element-is_piece [] = tt
input_element-is_piece (b ∷ rest) =
    either-is_piece (is_blank b) _ _ (λ e. lit< tt) (λ n.
    either-is_piece (is_letter b) _ _
    (λ e. token_span-is_piece is_name_byte name_token b rest (letter-is_name_byte b e))
    (λ n.
    either-is_piece (is_digit b) _ _ (λ e. token_span-is_piece is_digit constant_token b rest e) (λ n.
    either-is_piece _ _ _ (λ e. comment_element-is_piece (up_to_close (drop 1 rest)))
    (λ n. punctuator_element-is_piece (longest_punctuator (b ∷ rest))))))

length-ahead_after_byte : (a : UnreadSource) → length (ahead_after_byte a).bytes ≡ length a.bytes - 1
length-ahead_after_byte a = by a.line a.offset a.bytes a.too_long
  where
    by : (line offset : ℕ) (xs : List ℕ) (t : Bool) →
        length (ahead_after_byte (here line offset xs t)).bytes ≡ length xs - 1
    by line offset [] t = omega arith
    by line offset (x ∷ xs) t = omega arith

pub length-ahead_after : (n : ℕ) (a : UnreadSource) → length (ahead_after n a).bytes ≡ length a.bytes - n
length-ahead_after zero a = omega arith
length-ahead_after (suc n) a = omega (arith, length-ahead_after n (ahead_after_byte a), length-ahead_after_byte a)

tokens_of_element-same : (f : InputElement) (a : UnreadSource) (others others' : UnreadSource → List LocatedToken) →
    IsPiece f →
    ((count : ℕ) → 0 < count → others (ahead_after count a) ≡ others' (ahead_after count a)) →
    tokens_of_element f a others ≡ tokens_of_element f a others'
tokens_of_element-same Nothing a others others' p h = refl
tokens_of_element-same Unclosed a others others' p h = refl
tokens_of_element-same (Space count) a others others' p h = h count p
tokens_of_element-same (Lexeme sign count) a others others' p h = ap (followed_by (located sign count a)) (h count p)

-- more input elements than bytes make no difference
tokens_within-enough : (m n line offset : ℕ) (bytes : List ℕ) (too_long : Bool) → length bytes < m → length bytes < n →
    tokens_within m (here line offset bytes too_long) ≡ tokens_within n (here line offset bytes too_long)
tokens_within-enough zero n line offset xs t h k = absurd (omega (arith, h))
tokens_within-enough (suc m) zero line offset xs t h k = absurd (omega (arith, k))
tokens_within-enough (suc m) (suc n) line offset [] t h k = refl
tokens_within-enough (suc m) (suc n) line offset (b ∷ xs) t h k =
    tokens_of_element-same (input_element (b ∷ xs)) (here line offset (b ∷ xs) t) (tokens_within m) (tokens_within n)
    (input_element-is_piece (b ∷ xs)) (λ count c.
    let p = ahead_after count (here line offset (b ∷ xs) t) in
    let e = length-ahead_after count (here line offset (b ∷ xs) t) in
    tokens_within-enough m n p.line p.offset p.bytes p.too_long (omega (arith, e, h, c)) (omega (arith, e, k, c)))

located_tokens-here : (line offset : ℕ) (bytes : List ℕ) (too_long : Bool) →
    located_tokens (here line offset bytes too_long) ≡
    tokens_of_element (input_element bytes) (here line offset bytes too_long) located_tokens
unfolding located_tokens
located_tokens-here line offset [] t = refl
located_tokens-here line offset (b ∷ xs) t =
    tokens_of_element-same (input_element (b ∷ xs)) (here line offset (b ∷ xs) t) (tokens_within (length (b ∷ xs)))
    located_tokens
    (input_element-is_piece (b ∷ xs)) (λ count c.
    let p = ahead_after count (here line offset (b ∷ xs) t) in
    let e = length-ahead_after count (here line offset (b ∷ xs) t) in
    tokens_within-enough (length (b ∷ xs)) (suc (length p.bytes)) p.line p.offset p.bytes p.too_long
    (omega (arith, e, c))
    (omega arith))

-- the law of which all others are cases
pub located_tokens-input_element : (a : UnreadSource) →
    located_tokens a ≡ tokens_of_element (input_element a.bytes) a located_tokens
located_tokens-input_element a = located_tokens-here a.line a.offset a.bytes a.too_long
