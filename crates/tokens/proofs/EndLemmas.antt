-- Tokens end one after the other, within the source, and there is one at least.
use Rattle.std.proofs.Common.{◌≡◌, ℕ, zero, suc, ◌+◌, ◌<◌, ◌≤◌, Bool, true, false, cond, Option, Some, None, List, [], ◌∷◌, length, take, drop, refl, ap, ◌∙◌, arith, subst, length-take, ltb, eqb}
use Rattle.std.specs.Prelude.{◌&&◌}
use Rattle.std.specs.Option.{option_or}
use Rattle.std.proofs.lemmas.List.Sums.{prefix_len-le-length}
use Rattle.std.proofs.lemmas.Bool.{ltb-true}
use Rattle.tokens.specs.Source.{source}
use Rattle.tokens.specs.Characters.{is_blank, is_letter, is_digit, is_name_byte}
use Rattle.tokens.specs.Punctuators.{punctuator_of, spelling, longest_punctuator}
use Rattle.tokens.specs.InputElement.{InputElement, Nothing, Space, Unclosed, Lexeme, input_element, comment_element, punctuator_element, up_to_close, begins_with}
use Rattle.tokens.specs.Tokens.{UnreadSource, ahead_after_byte, ahead_after, at_end, last_located_token, is_last, tokens_within, tokens_of_element, located_tokens, ahead_of_source, tokens}
use Rattle.tokens.specs.Ends.{IsRising, AllEndBy, StaysUndecided}
use Rattle.tokens.specs.declared.located_tokens.Punctuator.{Punctuator}
use Rattle.tokens.specs.declared.located_tokens.LexicalError.TheVariants.{CommentNotClosed}
use Rattle.tokens.specs.declared.located_tokens.Token.{Token}
use Rattle.tokens.specs.declared.located_tokens.Token.TheVariants as variant
use Rattle.tokens.specs.declared.located_tokens.LocatedToken.{LocatedToken}
use Rattle.tokens.proofs.PunctuatorLemmas.{punctuator_of-spelled}
use Rattle.tokens.proofs.LocatedTokensLemmas.{IsPiece, input_element-is_piece, length-ahead_after, here}
use Rattle.tokens.proofs.TakenLemmas.{open-located, offset-ahead_after, last-window_after, last-open}

-- a token lies within the bytes that begin with it
abbrev pub IsInside : List ℕ → InputElement → Type 0
IsInside bytes Nothing = Unit {0}
IsInside bytes Unclosed = Unit {0}
IsInside bytes (Space count) = Unit {0}
IsInside bytes (Lexeme sign count) = count ≤ length bytes

either-inside : (t : Bool) (bytes : List ℕ) (x y : InputElement) → IsInside bytes x → IsInside bytes y →
    IsInside bytes (cond t x y)
either-inside true bytes x y f g = f
either-inside false bytes x y f g = g

comment_element-inside : (bytes : List ℕ) (n : Option ℕ) → IsInside bytes (comment_element n)
comment_element-inside bytes None = tt
comment_element-inside bytes (Some n) = tt

spelling-inside : (n : ℕ) (bytes : List ℕ) (m : Punctuator) → punctuator_of (take n bytes) ≡ Some m →
    length (spelling m) ≤ length bytes
spelling-inside n bytes m e = omega (arith, ap length (punctuator_of-spelled (take n bytes) m e), length-take n bytes)

or-inside : (bytes : List ℕ) (x y : Option Punctuator) →
    ((m : Punctuator) → x ≡ Some m → length (spelling m) ≤ length bytes) →
    ((m : Punctuator) → y ≡ Some m → length (spelling m) ≤ length bytes) → (m : Punctuator) → option_or x y ≡ Some m →
    length (spelling m) ≤ length bytes
or-inside bytes None y f g m e = g m e
or-inside bytes (Some x) y f g m e = f m e

punctuator_element-inside : (b : ℕ) (rest : List ℕ) (o : Option Punctuator) →
    ((m : Punctuator) → o ≡ Some m → length (spelling m) ≤ length (b ∷ rest)) →
    IsInside (b ∷ rest) (punctuator_element o)
punctuator_element-inside b rest None f = omega arith
punctuator_element-inside b rest (Some m) f = f m refl

pub input_element-inside : (bytes : List ℕ) → IsInside bytes (input_element bytes)
input_element-inside [] = tt
input_element-inside (b ∷ rest) =
    let xs = b ∷ rest in
    either-inside (is_blank b) xs _ _ tt (
    either-inside (is_letter b) xs _ _ (prefix_len-le-length is_name_byte xs) (
    either-inside (is_digit b) xs _ _ (prefix_len-le-length is_digit xs) (
    either-inside (eqb b 47 && begins_with 42 rest) xs _ _ (comment_element-inside xs (up_to_close (drop 1 rest)))
    (punctuator_element-inside b rest (longest_punctuator xs)
    (or-inside xs _ _ (spelling-inside 3 xs) (or-inside xs _ _ (spelling-inside 2 xs) (spelling-inside 1 xs)))))))

offset-here : (n line offset : ℕ) (bytes : List ℕ) (too_long : Bool) → n ≤ length bytes →
    (ahead_after n (here line offset bytes too_long)).offset ≡ offset + n
offset-here zero line offset xs t h = omega arith
offset-here (suc n) line offset [] t h = absurd (omega (arith, h))
offset-here (suc n) line offset (x ∷ xs) t h =
    let b = ahead_after_byte (here line offset (x ∷ xs) t) in
    omega (arith, offset-here n b.line b.offset b.bytes b.too_long (omega (arith, h)))

pub offset-inside : (n : ℕ) (a : UnreadSource) → n ≤ length a.bytes → (ahead_after n a).offset ≡ a.offset + n
offset-inside n a h = offset-here n a.line a.offset a.bytes a.too_long h

long-ahead_after_byte : (a : UnreadSource) → (ahead_after_byte a).too_long ≡ a.too_long
long-ahead_after_byte a = by a.line a.offset a.bytes a.too_long
  where
    by : (line offset : ℕ) (xs : List ℕ) (t : Bool) → (ahead_after_byte (here line offset xs t)).too_long ≡ t
    by line offset [] t = refl
    by line offset (x ∷ xs) t = refl

long-ahead_after : (n : ℕ) (a : UnreadSource) → (ahead_after n a).too_long ≡ a.too_long
long-ahead_after zero a = refl
long-ahead_after (suc n) a = long-ahead_after n (ahead_after_byte a) ∙ long-ahead_after_byte a

sum-ahead_after_byte : (a : UnreadSource) →
    (ahead_after_byte a).offset + length (ahead_after_byte a).bytes ≡ a.offset + length a.bytes
sum-ahead_after_byte a = by a.line a.offset a.bytes a.too_long
  where
    by : (line offset : ℕ) (xs : List ℕ) (t : Bool) →
        (ahead_after_byte (here line offset xs t)).offset + length (ahead_after_byte (here line offset xs t)).bytes ≡
        offset + length xs
    by line offset [] t = refl
    by line offset (x ∷ xs) t = omega arith

sum-ahead_after : (n : ℕ) (a : UnreadSource) →
    (ahead_after n a).offset + length (ahead_after n a).bytes ≡ a.offset + length a.bytes
sum-ahead_after zero a = refl
sum-ahead_after (suc n) a = sum-ahead_after n (ahead_after_byte a) ∙ sum-ahead_after_byte a

rising-sooner : (p q : ℕ) (xs : List LocatedToken) → q ≤ p → IsRising p xs → IsRising q xs
rising-sooner p q [] h r = tt
rising-sooner p q (x ∷ xs) h r = (omega (arith, h, r.0), r.1)

tokens_within-rising : (n : ℕ) (a : UnreadSource) → IsRising a.offset (tokens_within n a)
tokens_within-rising zero a = tt
tokens_within-rising (suc n) a =
    by (input_element a.bytes) (input_element-inside a.bytes) (λ count. tokens_within-rising n (ahead_after count a))
  where
    rest : (t : Bool) (p : ℕ) (xs : List LocatedToken) → IsRising p xs → IsRising p (cond t [] xs)
    rest true p xs r = tt
    rest false p xs r = r

    by : (f : InputElement) → IsInside a.bytes f →
        ((count : ℕ) → IsRising (ahead_after count a).offset (tokens_within n (ahead_after count a))) →
        IsRising a.offset (tokens_of_element f a (tokens_within n))
    by Nothing i h =
        (omega (arith, last-window_after variant.End a.line (at_end a), offset-ahead_after (length a.bytes) a), tt)
    by Unclosed i h = (
      omega (
        arith,
        last-window_after (variant.Fault CommentNotClosed) a.line (at_end a),
        offset-ahead_after (length a.bytes) a,
      ),
      tt,
    )
    by (Space count) i h = rising-sooner _ _ _ (offset-ahead_after count a) (h count)
    by (Lexeme sign count) i h = (
      omega arith,
      rest (is_last sign) (a.offset + count) _
          (subst (λ (p : ℕ). IsRising p (tokens_within n (ahead_after count a))) (offset-inside count a i) (h count)),
    )

tokens_within-open : (n : ℕ) (a : UnreadSource) → StaysUndecided a.offset (tokens_within n a)
tokens_within-open zero a = tt
tokens_within-open (suc n) a =
    by (input_element a.bytes) (input_element-inside a.bytes) (input_element-is_piece a.bytes)
    (λ count. tokens_within-open n (ahead_after count a))
  where
    sooner : (p q : ℕ) (xs : List LocatedToken) → q ≤ p → StaysUndecided p xs → StaysUndecided q xs
    sooner p q [] h r = tt
    sooner p q (x ∷ xs) h r = (omega (arith, h, r.0), r.1)

    rest : (t : Bool) (p : ℕ) (xs : List LocatedToken) → StaysUndecided p xs → StaysUndecided p (cond t [] xs)
    rest true p xs r = tt
    rest false p xs r = r

    by : (f : InputElement) → IsInside a.bytes f → IsPiece f →
        ((count : ℕ) → StaysUndecided (ahead_after count a).offset (tokens_within n (ahead_after count a))) →
        StaysUndecided a.offset (tokens_of_element f a (tokens_within n))
    by Nothing i p h =
        (omega (arith, last-open variant.End a.line (at_end a) refl, offset-ahead_after (length a.bytes) a), tt)
    by Unclosed i p h = (
      omega (
        arith,
        last-open (variant.Fault CommentNotClosed) a.line (at_end a) refl,
        offset-ahead_after (length a.bytes) a,
      ),
      tt,
    )
    by (Space count) i p h = sooner _ _ _ (offset-ahead_after count a) (h count)
    by (Lexeme sign count) i p h = (
      open-located sign count a p,
      rest (is_last sign) (a.offset + count) _
          (subst (λ (p : ℕ). StaysUndecided p (tokens_within n (ahead_after count a))) (offset-inside count a i)
          (h count)),
    )

abbrev pub over : Bool → ℕ
over true = 1
over false = 0

last-by : (limit line : ℕ) (token : Token) (a : UnreadSource) → a.offset + length a.bytes + over a.too_long ≤ limit →
    (last_located_token token line (at_end a)).end ≤ limit
last-by limit line token a h = by (at_end a).too_long (long-ahead_after (length a.bytes) a)
  where
    by : (t : Bool) → t ≡ a.too_long →
        (last_located_token token line (here (at_end a).line (at_end a).offset (at_end a).bytes t)).end ≤ limit
    by true e = omega (arith, offset-inside (length a.bytes) a (omega arith), ap over e, h)
    by false e = omega (arith, offset-inside (length a.bytes) a (omega arith), h)

pub tokens_within-by : (n limit : ℕ) (a : UnreadSource) → a.offset + length a.bytes + over a.too_long ≤ limit →
    AllEndBy limit (tokens_within n a)
tokens_within-by zero limit a h = tt
tokens_within-by (suc n) limit a h =
    by (input_element a.bytes) (input_element-inside a.bytes)
    (λ count further. tokens_within-by n limit (ahead_after count a) further)
  where
    rest : (t : Bool) (xs : List LocatedToken) → AllEndBy limit xs → AllEndBy limit (cond t [] xs)
    rest true xs r = tt
    rest false xs r = r

    further : (count : ℕ) →
        (ahead_after count a).offset + length (ahead_after count a).bytes + over (ahead_after count a).too_long ≤ limit
    further count = omega (arith, h, sum-ahead_after count a, ap over (long-ahead_after count a))

    by : (f : InputElement) → IsInside a.bytes f →
        ((count : ℕ) →
        (ahead_after count a).offset + length (ahead_after count a).bytes + over (ahead_after count a).too_long ≤
        limit →
        AllEndBy limit (tokens_within n (ahead_after count a))) →
        AllEndBy limit (tokens_of_element f a (tokens_within n))
    by Nothing i g = (last-by limit a.line variant.End a h, tt)
    by Unclosed i g = (last-by limit a.line (variant.Fault CommentNotClosed) a h, tt)
    by (Space count) i g = g count (further count)
    by (Lexeme sign count) i g = (omega (arith, h, i), rest (is_last sign) _ (g count (further count)))

-- there is a first token
tokens_within-nonempty : (n line offset : ℕ) (bytes : List ℕ) (too_long : Bool) → length bytes < n →
    (first : LocatedToken) × (others : List LocatedToken) ×
    (tokens_within n (here line offset bytes too_long) ≡ first ∷ others)
tokens_within-nonempty zero line offset xs t h = absurd (omega (arith, h))
tokens_within-nonempty (suc n) line offset [] t h = (_, _, refl)
tokens_within-nonempty (suc n) line offset (b ∷ xs) t h =
    by (input_element (b ∷ xs)) (input_element-is_piece (b ∷ xs)) (λ count c.
    let p = ahead_after count (here line offset (b ∷ xs) t) in
    let e = length-ahead_after count (here line offset (b ∷ xs) t) in
    tokens_within-nonempty n p.line p.offset p.bytes p.too_long (omega (arith, e, h, c)))
  where
    a : UnreadSource
    a = here line offset (b ∷ xs) t

    by : (f : InputElement) → IsPiece f →
        ((count : ℕ) → 0 < count →
        (first : LocatedToken) × (others : List LocatedToken) ×
        (tokens_within n (ahead_after count a) ≡ first ∷ others)) →
        (first : LocatedToken) × (others : List LocatedToken) ×
        (tokens_of_element f a (tokens_within n) ≡ first ∷ others)
    by Nothing p g = (_, _, refl)
    by Unclosed p g = (_, _, refl)
    by (Space count) p g = g count p
    by (Lexeme sign count) p g = (_, _, refl)

pub located_tokens-nonempty : (a : UnreadSource) →
    (first : LocatedToken) × (others : List LocatedToken) × (located_tokens a ≡ first ∷ others)
unfolding located_tokens
located_tokens-nonempty a =
    tokens_within-nonempty (suc (length a.bytes)) a.line a.offset a.bytes a.too_long (omega arith)

pub located_tokens-rising : (a : UnreadSource) → IsRising a.offset (located_tokens a)
unfolding located_tokens
located_tokens-rising a = tokens_within-rising (suc (length a.bytes)) a

pub located_tokens-open : (a : UnreadSource) → StaysUndecided a.offset (located_tokens a)
unfolding located_tokens
located_tokens-open a = tokens_within-open (suc (length a.bytes)) a

pub tokens-open : (bytes : List ℕ) → StaysUndecided 0 (tokens bytes)
unfolding tokens
tokens-open bytes = located_tokens-open (ahead_of_source (source bytes))

pub tokens-rising : (bytes : List ℕ) → IsRising 0 (tokens bytes)
unfolding tokens
tokens-rising bytes = located_tokens-rising (ahead_of_source (source bytes))

pub tokens-by : (bytes : List ℕ) → AllEndBy (length (source bytes)) (tokens bytes)
unfolding tokens located_tokens
tokens-by bytes =
    tokens_within-by (suc (length (take 1048576 (source bytes)))) (length (source bytes))
    (ahead_of_source (source bytes))
    (by (ltb 1048576 (length (source bytes))) refl)
  where
    by : (t : Bool) → ltb 1048576 (length (source bytes)) ≡ t →
        0 + length (take 1048576 (source bytes)) + over t ≤ length (source bytes)
    by true e = omega (arith, length-take 1048576 (source bytes), ltb-true _ _ e)
    by false e = omega (arith, length-take 1048576 (source bytes))
