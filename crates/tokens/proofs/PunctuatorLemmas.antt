-- The punctuators by their spellings: a punctuator's beginnings are punctuators.
use Rattle.std.proofs.Common.{◌≡◌, ◌∙◌, ℕ, ◌+◌, ◌<◌, ◌≤◌, Bool, true, false, cond, Option, Some, None, List, [], ◌∷◌, ◌++◌, length, take, refl, sym, ap, subst, arith, lit<, lit≤}
use Rattle.std.specs.Str.{bytes_eq}
use Rattle.std.proofs.lemmas.Slice.Eq.{bytes_eq-Decides}
use Rattle.std.proofs.lemmas.Bool.{agree_below_at, lt-leb}
use Rattle.std.specs.Prelude.{◌&&◌, is_some, nat_le, slice_index}
use Rattle.std.specs.List.{find}
use Rattle.tokens.specs.Punctuators.{spelling, all_punctuators, punctuator_of}
use Rattle.tokens.specs.Tokens.{UnreadSource, located, ahead_after}
use Rattle.tokens.specs.Lexing.{token_ending, IsOfSingleByte}
use Rattle.tokens.specs.Characters.{is_digit}
use Rattle.tokens.proofs.CharacterLemmas.{kinds, punctuator_bytes, by_kind}
use Rattle.tokens.specs.declared.located_tokens.Token.TheVariants as variant
use Rattle.tokens.specs.declared.located_tokens.Punctuator.{Punctuator}
use Rattle.tokens.specs.declared.located_tokens.Punctuator.TheVariants.{Plus, Minus, Star, Slash, Percent, And, Or, Xor, Tilde, Not, Less, Greater, Equals, ShiftLeft, ShiftRight, LessEquals, GreaterEquals, EqualsEquals, NotEquals, AndAnd, OrOr, PlusPlus, MinusMinus, PlusEquals, MinusEquals, StarEquals, SlashEquals, PercentEquals, ShiftLeftEquals, ShiftRightEquals, AndEquals, XorEquals, OrEquals, OpenRound, CloseRound, OpenCurly, CloseCurly, Comma, Semicolon}

find-spelled : (bytes : List ℕ) (punctuator : Punctuator) (punctuators : List Punctuator) →
    find (λ p. bytes_eq bytes (spelling p)) punctuators ≡ Some punctuator → bytes ≡ spelling punctuator
find-spelled bytes punctuator [] e = absurd cc
find-spelled bytes punctuator (m ∷ punctuators) e =
    by (bytes_eq bytes (spelling m)) refl (find-spelled bytes punctuator punctuators) e
  where
    by : (t : Bool) → bytes_eq bytes (spelling m) ≡ t →
        (find (λ p. bytes_eq bytes (spelling p)) punctuators ≡ Some punctuator → bytes ≡ spelling punctuator) →
        cond t (Some m) (find (λ p. bytes_eq bytes (spelling p)) punctuators) ≡ Some punctuator →
        bytes ≡ spelling punctuator
    by true q f e = let d : m ≡ punctuator = cc in (bytes_eq-Decides bytes (spelling m)).0 q ∙ ap spelling d
    by false q f e = f e

pub punctuator_of-spelled : (bytes : List ℕ) (punctuator : Punctuator) → punctuator_of bytes ≡ Some punctuator →
    bytes ≡ spelling punctuator
unfolding punctuator_of
punctuator_of-spelled bytes punctuator e = find-spelled bytes punctuator all_punctuators e

-- a punctuator has one byte to three, and its first byte is a punctuator, and its first two bytes are
spelled : (m : Punctuator) →
    (0 < length (spelling m))
    × (length (spelling m) ≤ 3)
    × (is_some (punctuator_of (take 1 (spelling m))) ≡ true)
    × (is_some (punctuator_of (take 2 (spelling m))) ≡ true)
unfolding punctuator_of
spelled Plus = (lit< tt, lit≤ tt, refl, refl)
spelled Minus = (lit< tt, lit≤ tt, refl, refl)
spelled Star = (lit< tt, lit≤ tt, refl, refl)
spelled Slash = (lit< tt, lit≤ tt, refl, refl)
spelled Percent = (lit< tt, lit≤ tt, refl, refl)
spelled And = (lit< tt, lit≤ tt, refl, refl)
spelled Or = (lit< tt, lit≤ tt, refl, refl)
spelled Xor = (lit< tt, lit≤ tt, refl, refl)
spelled Tilde = (lit< tt, lit≤ tt, refl, refl)
spelled Not = (lit< tt, lit≤ tt, refl, refl)
spelled Less = (lit< tt, lit≤ tt, refl, refl)
spelled Greater = (lit< tt, lit≤ tt, refl, refl)
spelled Equals = (lit< tt, lit≤ tt, refl, refl)
spelled ShiftLeft = (lit< tt, lit≤ tt, refl, refl)
spelled ShiftRight = (lit< tt, lit≤ tt, refl, refl)
spelled LessEquals = (lit< tt, lit≤ tt, refl, refl)
spelled GreaterEquals = (lit< tt, lit≤ tt, refl, refl)
spelled EqualsEquals = (lit< tt, lit≤ tt, refl, refl)
spelled NotEquals = (lit< tt, lit≤ tt, refl, refl)
spelled AndAnd = (lit< tt, lit≤ tt, refl, refl)
spelled OrOr = (lit< tt, lit≤ tt, refl, refl)
spelled PlusPlus = (lit< tt, lit≤ tt, refl, refl)
spelled MinusMinus = (lit< tt, lit≤ tt, refl, refl)
spelled PlusEquals = (lit< tt, lit≤ tt, refl, refl)
spelled MinusEquals = (lit< tt, lit≤ tt, refl, refl)
spelled StarEquals = (lit< tt, lit≤ tt, refl, refl)
spelled SlashEquals = (lit< tt, lit≤ tt, refl, refl)
spelled PercentEquals = (lit< tt, lit≤ tt, refl, refl)
spelled ShiftLeftEquals = (lit< tt, lit≤ tt, refl, refl)
spelled ShiftRightEquals = (lit< tt, lit≤ tt, refl, refl)
spelled AndEquals = (lit< tt, lit≤ tt, refl, refl)
spelled XorEquals = (lit< tt, lit≤ tt, refl, refl)
spelled OrEquals = (lit< tt, lit≤ tt, refl, refl)
spelled OpenRound = (lit< tt, lit≤ tt, refl, refl)
spelled CloseRound = (lit< tt, lit≤ tt, refl, refl)
spelled OpenCurly = (lit< tt, lit≤ tt, refl, refl)
spelled CloseCurly = (lit< tt, lit≤ tt, refl, refl)
spelled Comma = (lit< tt, lit≤ tt, refl, refl)
spelled Semicolon = (lit< tt, lit≤ tt, refl, refl)

pub spelling-nonempty : (m : Punctuator) → 0 < length (spelling m)
spelling-nonempty m = (spelled m).0

pub spelling-short : (m : Punctuator) → length (spelling m) ≤ 3
spelling-short m = (spelled m).1

is-none : (o : Option Punctuator) → is_some o ≡ true → o ≡ None → ⊥
is-none None s e = absurd cc
is-none (Some m) s e = absurd cc

first-of-two : (m : Punctuator) (b c : ℕ) → b ∷ c ∷ [] ≡ spelling m → punctuator_of (b ∷ []) ≡ None → ⊥
first-of-two m b c e h =
    is-none (punctuator_of (b ∷ [])) (ap (λ xs. is_some (punctuator_of (take 1 xs))) e ∙ (spelled m).2) h

two-of-three : (m : Punctuator) (b c d : ℕ) → b ∷ c ∷ d ∷ [] ≡ spelling m → punctuator_of (b ∷ c ∷ []) ≡ None → ⊥
two-of-three m b c d e h =
    is-none (punctuator_of (b ∷ c ∷ [])) (ap (λ xs. is_some (punctuator_of (take 2 xs))) e ∙ (spelled m).3) h

pub none-of-two : (b c : ℕ) → punctuator_of (b ∷ []) ≡ None → punctuator_of (b ∷ c ∷ []) ≡ None
none-of-two b c h = by (punctuator_of (b ∷ c ∷ [])) refl
  where
    by : (o : Option Punctuator) → punctuator_of (b ∷ c ∷ []) ≡ o → punctuator_of (b ∷ c ∷ []) ≡ None
    by None e = e
    by (Some m) e = absurd (first-of-two m b c (punctuator_of-spelled _ m e) h)

pub none-of-three : (b c d : ℕ) → punctuator_of (b ∷ c ∷ []) ≡ None → punctuator_of (b ∷ c ∷ d ∷ []) ≡ None
none-of-three b c d h = by (punctuator_of (b ∷ c ∷ d ∷ [])) refl
  where
    by : (o : Option Punctuator) → punctuator_of (b ∷ c ∷ d ∷ []) ≡ o → punctuator_of (b ∷ c ∷ d ∷ []) ≡ None
    by None e = e
    by (Some m) e = absurd (two-of-three m b c d (punctuator_of-spelled _ m e) h)

pub none-of-four : (b c d x : ℕ) → punctuator_of (b ∷ c ∷ d ∷ x ∷ []) ≡ None
none-of-four b c d x = by (punctuator_of (b ∷ c ∷ d ∷ x ∷ [])) refl
  where
    by : (o : Option Punctuator) → punctuator_of (b ∷ c ∷ d ∷ x ∷ []) ≡ o → punctuator_of (b ∷ c ∷ d ∷ x ∷ []) ≡ None
    by None e = e
    by (Some m) e = absurd (omega (arith, ap length (punctuator_of-spelled _ m e), spelling-short m))

further2 : (offset : ℕ) → offset + 2 ≡ offset + 1 + 1
further2 offset = omega arith

further3 : (offset : ℕ) → offset + 3 ≡ offset + 1 + 1 + 1
further3 offset = omega arith

-- no punctuator has the byte that ends a line
located_token-here : (m : Punctuator) (line offset : ℕ) (rest : List ℕ) (too_long : Bool) → let a : UnreadSource =
    record { line = line; offset = offset; bytes = spelling m ++ rest; too_long = too_long } in located
    (variant.Punctuator m) (length (spelling m)) a ≡
    token_ending (variant.Punctuator m) (ahead_after (length (spelling m)) a)
located_token-here Plus line offset rest t = refl
located_token-here Minus line offset rest t = refl
located_token-here Star line offset rest t = refl
located_token-here Slash line offset rest t = refl
located_token-here Percent line offset rest t = refl
located_token-here And line offset rest t = refl
located_token-here Or line offset rest t = refl
located_token-here Xor line offset rest t = refl
located_token-here Tilde line offset rest t = refl
located_token-here Not line offset rest t = refl
located_token-here Less line offset rest t = refl
located_token-here Greater line offset rest t = refl
located_token-here Equals line offset rest t = refl
located_token-here ShiftLeft line offset rest t =
    ap (λ p. record { token = variant.Punctuator ShiftLeft; line = line; end = p }) (further2 offset)
located_token-here ShiftRight line offset rest t =
    ap (λ p. record { token = variant.Punctuator ShiftRight; line = line; end = p }) (further2 offset)
located_token-here LessEquals line offset rest t =
    ap (λ p. record { token = variant.Punctuator LessEquals; line = line; end = p }) (further2 offset)
located_token-here GreaterEquals line offset rest t =
    ap (λ p. record { token = variant.Punctuator GreaterEquals; line = line; end = p }) (further2 offset)
located_token-here EqualsEquals line offset rest t =
    ap (λ p. record { token = variant.Punctuator EqualsEquals; line = line; end = p }) (further2 offset)
located_token-here NotEquals line offset rest t =
    ap (λ p. record { token = variant.Punctuator NotEquals; line = line; end = p }) (further2 offset)
located_token-here AndAnd line offset rest t =
    ap (λ p. record { token = variant.Punctuator AndAnd; line = line; end = p }) (further2 offset)
located_token-here OrOr line offset rest t =
    ap (λ p. record { token = variant.Punctuator OrOr; line = line; end = p }) (further2 offset)
located_token-here PlusPlus line offset rest t =
    ap (λ p. record { token = variant.Punctuator PlusPlus; line = line; end = p }) (further2 offset)
located_token-here MinusMinus line offset rest t =
    ap (λ p. record { token = variant.Punctuator MinusMinus; line = line; end = p }) (further2 offset)
located_token-here PlusEquals line offset rest t =
    ap (λ p. record { token = variant.Punctuator PlusEquals; line = line; end = p }) (further2 offset)
located_token-here MinusEquals line offset rest t =
    ap (λ p. record { token = variant.Punctuator MinusEquals; line = line; end = p }) (further2 offset)
located_token-here StarEquals line offset rest t =
    ap (λ p. record { token = variant.Punctuator StarEquals; line = line; end = p }) (further2 offset)
located_token-here SlashEquals line offset rest t =
    ap (λ p. record { token = variant.Punctuator SlashEquals; line = line; end = p }) (further2 offset)
located_token-here PercentEquals line offset rest t =
    ap (λ p. record { token = variant.Punctuator PercentEquals; line = line; end = p }) (further2 offset)
located_token-here ShiftLeftEquals line offset rest t =
    ap (λ p. record { token = variant.Punctuator ShiftLeftEquals; line = line; end = p }) (further3 offset)
located_token-here ShiftRightEquals line offset rest t =
    ap (λ p. record { token = variant.Punctuator ShiftRightEquals; line = line; end = p }) (further3 offset)
located_token-here AndEquals line offset rest t =
    ap (λ p. record { token = variant.Punctuator AndEquals; line = line; end = p }) (further2 offset)
located_token-here XorEquals line offset rest t =
    ap (λ p. record { token = variant.Punctuator XorEquals; line = line; end = p }) (further2 offset)
located_token-here OrEquals line offset rest t =
    ap (λ p. record { token = variant.Punctuator OrEquals; line = line; end = p }) (further2 offset)
located_token-here OpenRound line offset rest t = refl
located_token-here CloseRound line offset rest t = refl
located_token-here OpenCurly line offset rest t = refl
located_token-here CloseCurly line offset rest t = refl
located_token-here Comma line offset rest t = refl
located_token-here Semicolon line offset rest t = refl

pub punctuator_element-located_token : (m : Punctuator) (a : UnreadSource) (rest : List ℕ) →
    a.bytes ≡ spelling m ++ rest →
    located (variant.Punctuator m) (length (spelling m)) a ≡
    token_ending (variant.Punctuator m) (ahead_after (length (spelling m)) a)
punctuator_element-located_token m a rest e =
    subst
    (λ (xs : List ℕ).
    let b : UnreadSource = record { line = a.line; offset = a.offset; bytes = xs; too_long = a.too_long } in
    located (variant.Punctuator m) (length (spelling m)) b ≡
    token_ending (variant.Punctuator m) (ahead_after (length (spelling m)) b)) (sym e)
    (located_token-here m a.line a.offset rest a.too_long)

-- the punctuator of a byte, by its kind
pub of_kind : (kind : ℕ) (o : Option Punctuator) → nat_le kind 2 ≡ false →
    punctuator_of (slice_index punctuator_bytes kind ∷ []) ≡ o → (b : ℕ) → b < 256 → (i : ℕ) → i ≡ b →
    slice_index kinds i ≡ kind → o ≡ punctuator_of (b ∷ [])
of_kind kind o high is b h i same e =
    sym (ap (λ x. punctuator_of (x ∷ [])) (by_kind kind _ high refl b h (ap (slice_index kinds) (sym same) ∙ e)) ∙ is)

-- and if no longer one begins with it
pub whole_of_kind : (kind : ℕ) (m : Punctuator) → nat_le kind 2 ≡ false →
    punctuator_of (slice_index punctuator_bytes kind ∷ []) ≡ Some m →
    ((n : ℕ) → punctuator_of (spelling m ++ n ∷ []) ≡ None) → (b : ℕ) → b < 256 → (i : ℕ) → i ≡ b →
    slice_index kinds i ≡ kind → IsOfSingleByte b m
whole_of_kind kind m high is ends b h i same e =
    record { is = sym (of_kind kind (Some m) high is b h i same e); ends = ends }

-- no punctuator begins with a byte of another kind
pub kind-none : (b : ℕ) → b < 256 → slice_index kinds b < 3 → None ≡ punctuator_of (b ∷ [])
unfolding kinds punctuator_of
kind-none b h low =
    by (punctuator_of (b ∷ []))
    (sym (agree_below_at (λ x. nat_le 3 (slice_index kinds x)) (λ x. is_some (punctuator_of (x ∷ []))) 256 b refl h)
    ∙ lt-leb _ _ low)
  where
    by : (o : Option Punctuator) → is_some o ≡ false → None ≡ o
    by None e = refl
    by (Some m) e = absurd cc

-- no punctuator is a digit
pub no-digit : (b : ℕ) (m : Punctuator) → b < 256 → punctuator_of (b ∷ []) ≡ Some m → is_digit b ≡ false
unfolding punctuator_of
no-digit b m h e =
    by (is_digit b) (punctuator_of (b ∷ []))
    (agree_below_at (λ x. is_digit x && is_some (punctuator_of (x ∷ []))) (λ x. false) 256 b refl h) e
  where
    by : (t : Bool) (o : Option Punctuator) → (t && is_some o) ≡ false → o ≡ Some m → t ≡ false
    by false o none is = refl
    by true None none is = absurd cc
    by true (Some x) none is = absurd cc
