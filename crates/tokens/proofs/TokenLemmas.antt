-- Blanks, comments, names, constants and punctuators, a byte at a time.
use Rattle.std.proofs.Common.{◌≡◌, ℕ, zero, suc, ◌+◌, ◌-◌, ◌*◌, ◌<◌, ◌≤◌, Bool, true, false, cond, eqb, leb, Option, Some, None, List, [], ◌∷◌, ◌++◌, length, take, fold, min, ◌⊎◌, inl, inr, refl, sym, ap, ◌∙◌, subst, arith, append_assoc, length-append}
use Rattle.std.specs.Prelude.{slice_get}
use Rattle.std.specs.List.{prefix_len}
use Rattle.std.specs.Option.{option_and_then}
use Rattle.std.proofs.lemmas.Bool.{eqb-true, lt-leb, cases_lt}
use Rattle.tokens.specs.Characters.{is_blank, is_digit, is_name_byte}
use Rattle.tokens.specs.Punctuators.{spelling, punctuator_of}
use Rattle.tokens.specs.InputElement.{input_element, name_token}
use Rattle.tokens.specs.Tokens.{UnreadSource, ahead_after_byte, line_after, ahead_after, located, last_located_token, followed_by, tokens_of_element, located_tokens}
use Rattle.tokens.specs.Window.{Window, ahead, window_after, window_after_byte, window_after_blanks, IsAtHandOrEnd}
use Rattle.tokens.specs.Lexing.{to_read, followed, token_ending, in_token_span, in_name, name_going_on, in_constant, constant_going_on, value_token, in_punctuator, extended}
use Rattle.tokens.specs.declared.located_tokens.Punctuator.{Punctuator}
use Rattle.tokens.specs.declared.located_tokens.LexicalError.TheVariants.{NameTooLong}
use Rattle.tokens.specs.declared.located_tokens.Token.{Token}
use Rattle.tokens.specs.declared.located_tokens.Token.TheVariants as variant
use Rattle.tokens.specs.declared.located_tokens.LocatedToken.{LocatedToken}
use Rattle.tokens.specs.declared.windows.Beyond.{Beyond}
use Rattle.tokens.proofs.LocatedTokensLemmas.{located_tokens-input_element, here, with_bytes}
use Rattle.tokens.proofs.WindowLemmas.{held}
use Rattle.tokens.proofs.ToRead.{to_read-here, to_read-pass, first-ahead, none-ahead}

pub chosen : {A : Type 0} (t : Bool) (x y : A) → t ≡ true → cond t x y ≡ x
chosen true x y e = refl
chosen false x y e = absurd cc

pub other : {A : Type 0} (t : Bool) (x y : A) → t ≡ false → cond t x y ≡ y
other true x y e = absurd cc
other false x y e = refl

-- a blank is skipped
pub blank-skipped : (b : ℕ) → is_blank b ≡ true → (a : UnreadSource) (rest : List ℕ) → a.bytes ≡ b ∷ rest →
    located_tokens (ahead_after_byte a) ≡ located_tokens a
blank-skipped b blank a rest e =
    sym
    (located_tokens-input_element a ∙
    ap (λ f. tokens_of_element f a located_tokens) (ap input_element e ∙ chosen (is_blank b) _ _ blank))

blanks-here : (to_come : Option (List ℕ)) (n line offset taken : ℕ) (xs : List ℕ) (beyond : Beyond) →
    n ≤ prefix_len is_blank xs →
    to_read located_tokens (window_after n (held line offset xs taken beyond)) to_come ≡
    to_read located_tokens (held line offset xs taken beyond) to_come
blanks-here to_come zero line offset taken xs beyond h = refl
blanks-here to_come (suc n) line offset taken [] beyond h = absurd (omega (arith, h))
blanks-here to_come (suc n) line offset taken (b ∷ xs) beyond h =
    let next = window_after_byte (held line offset (b ∷ xs) taken beyond) in
    by (is_blank b) refl h (blanks-here to_come n next.line next.offset next.taken xs beyond)
  where
    by : (s : Bool) → is_blank b ≡ s → suc n ≤ cond s (1 + prefix_len is_blank xs) 0 →
        (n ≤ prefix_len is_blank xs →
        to_read located_tokens (window_after n (window_after_byte (held line offset (b ∷ xs) taken beyond))) to_come ≡
        to_read located_tokens (window_after_byte (held line offset (b ∷ xs) taken beyond)) to_come) →
        to_read located_tokens (window_after (suc n) (held line offset (b ∷ xs) taken beyond)) to_come ≡
        to_read located_tokens (held line offset (b ∷ xs) taken beyond) to_come
    by true e h f =
        f (omega (arith, h)) ∙
        to_read-pass located_tokens located_tokens (window_after_byte (held line offset (b ∷ xs) taken beyond))
        (held line offset (b ∷ xs) taken beyond) to_come (Some b) b refl refl refl (blank-skipped b e)
    by false e h f = absurd (omega (arith, h))

-- the blanks at hand are skipped
pub blanks-pass : (new here : Window) (to_come : Option (List ℕ)) → new ≡ window_after_blanks here →
    to_read located_tokens new to_come ≡ to_read located_tokens here to_come
blanks-pass new here to_come n =
    ap (λ h. to_read located_tokens h to_come) n ∙
    blanks-here to_come (prefix_len is_blank here.at_hand) here.line here.offset here.taken here.at_hand here.beyond
    (omega arith)

-- nothing is left
pub nothing-left : (a : UnreadSource) → a.bytes ≡ [] →
    followed (last_located_token variant.End a.line a) a ≡ located_tokens a
unfolding followed
nothing-left a e =
    by a.too_long ∙
    subst
    (λ (xs : List ℕ). last_located_token variant.End a.line a ∷ [] ≡
    tokens_of_element (input_element xs) (here a.line a.offset xs a.too_long) located_tokens) (sym e) same ∙
    sym (located_tokens-input_element a)
  where
    by : (t : Bool) →
        followed_by (last_located_token variant.End a.line (here a.line a.offset a.bytes t)) (located_tokens a) ≡
        last_located_token variant.End a.line (here a.line a.offset a.bytes t) ∷ []
    by true = refl
    by false = refl

    same : last_located_token variant.End a.line a ∷ [] ≡
        tokens_of_element (input_element []) (here a.line a.offset [] a.too_long) located_tokens
    same = refl

prefix_len-passes : (test : ℕ → Bool) (b : ℕ) (rest : List ℕ) → test b ≡ true →
    prefix_len test (b ∷ rest) ≡ suc (prefix_len test rest)
prefix_len-passes test b rest e = chosen (test b) _ _ e ∙ omega arith

-- a span goes on
token_span-goes_on-here : (test : ℕ → Bool) (token_of : List ℕ → Token) (line offset b : ℕ) (rest : List ℕ)
    (too_long : Bool) →
    test b ≡ true → eqb b 10 ≡ false →
    in_token_span test (λ more. token_of (b ∷ more)) (ahead_after_byte (here line offset (b ∷ rest) too_long)) ≡
    in_token_span test token_of (here line offset (b ∷ rest) too_long)
unfolding in_token_span
token_span-goes_on-here test token_of line offset b rest t passes no_line =
    let e = prefix_len-passes test b rest passes in
    let l : line_after b line ≡ line = other (eqb b 10) _ _ no_line in
    let p : offset + 1 + prefix_len test rest ≡ offset + suc (prefix_len test rest) = omega arith in
    rw (e, p)
    (ap
    (λ n. followed
    (record {
      token = token_of (b ∷ take (prefix_len test rest) rest);
      line = n;
      end = offset + suc (prefix_len test rest);
    })
    (ahead_after (prefix_len test rest) (ahead_after_byte (here line offset (b ∷ rest) t)))) l)

pub token_span-goes_on : (test : ℕ → Bool) (token_of : List ℕ → Token) (b : ℕ) → test b ≡ true → eqb b 10 ≡ false →
    (a : UnreadSource) (rest : List ℕ) → a.bytes ≡ b ∷ rest →
    in_token_span test (λ more. token_of (b ∷ more)) (ahead_after_byte a) ≡ in_token_span test token_of a
token_span-goes_on test token_of b passes no_line a rest e =
    with_bytes
    (λ a. in_token_span test (λ more. token_of (b ∷ more)) (ahead_after_byte a) ≡ in_token_span test token_of a) a _ e
    (token_span-goes_on-here test token_of a.line a.offset b rest a.too_long passes no_line)

-- a span ends
pub token_span-ends : (test : ℕ → Bool) (token_of : List ℕ → Token) (a : UnreadSource) → prefix_len test a.bytes ≡ 0 →
    followed (token_ending (token_of []) a) a ≡ in_token_span test token_of a
unfolding in_token_span
token_span-ends test token_of a e = let p : a.offset + 0 ≡ a.offset = omega arith in rw (e, p) refl

in_token_span-same : (test : ℕ → Bool) (token_of token_of' : List ℕ → Token) (a : UnreadSource) →
    ((more : List ℕ) → token_of more ≡ token_of' more) → in_token_span test token_of a ≡ in_token_span test token_of' a
unfolding in_token_span
in_token_span-same test token_of token_of' a h =
    ap (λ t. followed (located t (prefix_len test a.bytes) a) (ahead_after (prefix_len test a.bytes) a))
    (h (take (prefix_len test a.bytes) a.bytes))

-- a byte of a span doesn't end a line
pub no_line : (test : ℕ → Bool) (b : ℕ) → test 10 ≡ false → test b ≡ true → eqb b 10 ≡ false
no_line test b e h = by (eqb b 10) refl
  where
    by : (t : Bool) → eqb b 10 ≡ t → eqb b 10 ≡ false
    by true q = let d : b ≡ 10 = eqb-true b 10 q in absurd cc
    by false q = q

pub token_span-takes : (test : ℕ → Bool) (token_of token_of' : List ℕ → Token) (b : ℕ) → test 10 ≡ false →
    test b ≡ true →
    ((more : List ℕ) → token_of' more ≡ token_of (b ∷ more)) → (a : UnreadSource) (rest : List ℕ) → a.bytes ≡ b ∷ rest →
    in_token_span test token_of' (ahead_after_byte a) ≡ in_token_span test token_of a
token_span-takes test token_of token_of' b n h s a rest e =
    in_token_span-same test token_of' (λ more. token_of (b ∷ more)) (ahead_after_byte a) s ∙
    token_span-goes_on test token_of b h (no_line test b n h) a rest e

-- a name takes one byte more, while it has room
pub name-takes : (name : List ℕ) (too_long : Bool) (b : ℕ) → is_name_byte b ≡ true →
    (a : UnreadSource) (rest : List ℕ) →
    a.bytes ≡ b ∷ rest → in_name (name ++ b ∷ []) too_long (ahead_after_byte a) ≡ in_name name too_long a
name-takes name too_long b h =
    token_span-takes is_name_byte (name_going_on name too_long) (name_going_on (name ++ b ∷ []) too_long) b refl h
    (λ more. ap (λ bytes. cond too_long (variant.Fault NameTooLong) (name_token bytes))
    (append_assoc name (b ∷ []) more))

-- and is too long from then on
pub name-overflows : (name : List ℕ) (too_long : Bool) (b : ℕ) → 31 ≤ length name → is_name_byte b ≡ true →
    (a : UnreadSource) (rest : List ℕ) → a.bytes ≡ b ∷ rest →
    in_name name true (ahead_after_byte a) ≡ in_name name too_long a
name-overflows name too_long b full h =
    token_span-takes is_name_byte (name_going_on name too_long) (name_going_on name true) b refl h
    (λ more. by too_long more)
  where
    by : (t : Bool) (more : List ℕ) → variant.Fault NameTooLong ≡ name_going_on name t (b ∷ more)
    by true more = refl
    by false more =
        sym
        (other (leb (length (name ++ b ∷ more)) 31) _ _
        (lt-leb _ _ (omega (arith, length-append name (b ∷ more), full))))

abbrev digits_on : ℕ → List ℕ → ℕ
digits_on value more = fold (λ value digit. 10 * value + (digit - 48)) value more

digits_on-grows : (value : ℕ) (more : List ℕ) → value ≤ digits_on value more
digits_on-grows value [] = omega arith
digits_on-grows value (d ∷ more) = omega (arith, digits_on-grows (10 * value + (d - 48)) more)

-- a value above the greatest may represent all such values
capped : (value : ℕ) (more : List ℕ) →
    value_token (digits_on (min value 2147483648) more) ≡ value_token (digits_on value more)
capped value more = by (cases_lt value 2147483648)
  where
    by : (value < 2147483648) ⊎ (2147483648 ≤ value) →
        value_token (digits_on (min value 2147483648) more) ≡ value_token (digits_on value more)
    by (inl small) = let e : min value 2147483648 ≡ value = omega arith in ap (λ v. value_token (digits_on v more)) e
    by (inr big) =
        let e : min value 2147483648 ≡ 2147483648 = omega arith in
        ap (λ v. value_token (digits_on v more)) e
        ∙
        other (leb (digits_on 2147483648 more) 2147483647) _ _
        (lt-leb _ _ (omega (arith, digits_on-grows 2147483648 more)))
        ∙
        sym
        (other (leb (digits_on value more) 2147483647) _ _
        (lt-leb _ _ (omega (arith, digits_on-grows value more))))

-- a constant takes one digit more
pub constant-takes : (value b : ℕ) → is_digit b ≡ true → (a : UnreadSource) (rest : List ℕ) → a.bytes ≡ b ∷ rest →
    in_constant (min (10 * value + (b - 48)) 2147483648) (ahead_after_byte a) ≡ in_constant value a
constant-takes value b h =
    token_span-takes is_digit (constant_going_on value) (constant_going_on (min (10 * value + (b - 48)) 2147483648)) b
    refl h
    (capped (10 * value + (b - 48)))

-- a span stops at the end, and at a byte that doesn't pass
abbrev pub StopsAt : (ℕ → Bool) → Option ℕ → Type 0
StopsAt test None = Unit {0}
StopsAt test (Some b) = test b ≡ false

-- no blank is at hand first
pub no-blanks : (here : Window) (first : Option ℕ) → first ≡ slice_get here.at_hand 0 → StopsAt is_blank first →
    here ≡ window_after_blanks here
no-blanks here first f stops = sym (ap (λ n. window_after n here) (by here.at_hand first f stops))
  where
    by : (xs : List ℕ) (o : Option ℕ) → o ≡ slice_get xs 0 → StopsAt is_blank o → prefix_len is_blank xs ≡ 0
    by [] o f stops = refl
    by (x ∷ xs) None f stops = absurd cc
    by (x ∷ xs) (Some b) f stops = let d : b ≡ x = cc in other (is_blank x) _ _ (ap is_blank (sym d) ∙ stops)

pub token_span-stops : (test : ℕ → Bool) (token_of : List ℕ → Token) (located_token : LocatedToken) (token : Token)
    (here : Window) (to_come : Option (List ℕ)) (first : Option ℕ) → IsAtHandOrEnd here →
    first ≡ slice_get here.at_hand 0 →
    StopsAt test first → ((to_come : List ℕ) → located_token ≡ token_ending token (ahead here to_come)) →
    token ≡ token_of [] →
    to_read (followed located_token) here to_come ≡ to_read (in_token_span test token_of) here to_come
token_span-stops test token_of located_token token here to_come first ready f stops x t =
    to_read-here (followed located_token) (in_token_span test token_of) here to_come (λ to_come.
    let a = ahead here to_come in
    ap (λ l. followed l a) (x to_come ∙ ap (λ k. token_ending k a) t) ∙
    token_span-ends test token_of a (none_passes first f stops to_come))
  where
    none_passes : (o : Option ℕ) → o ≡ slice_get here.at_hand 0 → StopsAt test o → (to_come : List ℕ) →
        prefix_len test (ahead here to_come).bytes ≡ 0
    none_passes None f stops to_come = ap (prefix_len test) (none-ahead here to_come ready (sym f))
    none_passes (Some b) f stops to_come =
        let r = first-ahead here b to_come (sym f) in
        ap (prefix_len test) r.1 ∙ other (test b) _ _ stops

-- a punctuator takes one byte more
punctuator_element-grows-here : (old longer : Punctuator) (line offset b : ℕ) (rest : List ℕ) (too_long : Bool) →
    punctuator_of (spelling old ++ b ∷ []) ≡ Some longer →
    in_punctuator longer (ahead_after_byte (here line offset (b ∷ rest) too_long)) ≡
    in_punctuator old (here line offset (b ∷ rest) too_long)
unfolding in_punctuator
punctuator_element-grows-here old longer line offset b rest t e = by (punctuator_of (spelling old ++ b ∷ [])) e
  where
    by : (o : Option Punctuator) → o ≡ Some longer →
        extended longer rest (ahead_after_byte (here line offset (b ∷ rest) t)) ≡
        elim o [
          | None ↦ followed (token_ending (variant.Punctuator old) (here line offset (b ∷ rest) t))
              (here line offset (b ∷ rest) t)
          | Some longer ↦ extended longer rest (ahead_after_byte (here line offset (b ∷ rest) t))
        ]
    by None e = absurd cc
    by (Some m) e =
        let d : m ≡ longer = cc in ap (λ k. extended k rest (ahead_after_byte (here line offset (b ∷ rest) t))) (sym d)

pub punctuator_element-grows : (old longer : Punctuator) (b : ℕ) →
    punctuator_of (spelling old ++ b ∷ []) ≡ Some longer →
    (a : UnreadSource) (rest : List ℕ) → a.bytes ≡ b ∷ rest →
    in_punctuator longer (ahead_after_byte a) ≡ in_punctuator old a
punctuator_element-grows old longer b h a rest e =
    with_bytes (λ a. in_punctuator longer (ahead_after_byte a) ≡ in_punctuator old a) a _ e
    (punctuator_element-grows-here old longer a.line a.offset b rest a.too_long h)

punctuator_element-ends-none : (old : Punctuator) (a : UnreadSource) → a.bytes ≡ [] →
    followed (token_ending (variant.Punctuator old) a) a ≡ in_punctuator old a
unfolding in_punctuator
punctuator_element-ends-none old a e = ap (λ xs. extended old xs a) (sym e)

punctuator_element-ends-at : (old : Punctuator) (a : UnreadSource) (b : ℕ) (rest : List ℕ) → a.bytes ≡ b ∷ rest →
    punctuator_of (spelling old ++ b ∷ []) ≡ None →
    followed (token_ending (variant.Punctuator old) a) a ≡ in_punctuator old a
unfolding in_punctuator
punctuator_element-ends-at old a b rest e h =
    by (punctuator_of (spelling old ++ b ∷ [])) h ∙ ap (λ xs. extended old xs a) (sym e)
  where
    by : (o : Option Punctuator) → o ≡ None →
        followed (token_ending (variant.Punctuator old) a) a ≡
        elim o [
          | None ↦ followed (token_ending (variant.Punctuator old) a) a
          | Some longer ↦ extended longer rest (ahead_after_byte a)
        ]
    by None h = refl
    by (Some m) h = absurd cc

-- a punctuator stops at the end, and at a byte that makes no longer one
pub punctuator_element-stops : (old : Punctuator) (located_token : LocatedToken) (here : Window)
    (to_come : Option (List ℕ))
    (first : Option ℕ) → IsAtHandOrEnd here → first ≡ slice_get here.at_hand 0 →
    option_and_then (λ b. punctuator_of (spelling old ++ b ∷ [])) first ≡ None →
    ((to_come : List ℕ) → located_token ≡ token_ending (variant.Punctuator old) (ahead here to_come)) →
    to_read (followed located_token) here to_come ≡ to_read (in_punctuator old) here to_come
punctuator_element-stops old located_token here to_come first ready f stops x =
    to_read-here (followed located_token) (in_punctuator old) here to_come
    (λ to_come. ap (λ l. followed l (ahead here to_come)) (x to_come) ∙ by first f stops to_come)
  where
    by : (o : Option ℕ) → o ≡ slice_get here.at_hand 0 →
        option_and_then (λ b. punctuator_of (spelling old ++ b ∷ [])) o ≡ None → (to_come : List ℕ) →
        followed (token_ending (variant.Punctuator old) (ahead here to_come)) (ahead here to_come) ≡
        in_punctuator old (ahead here to_come)
    by None f stops to_come =
        punctuator_element-ends-none old (ahead here to_come) (none-ahead here to_come ready (sym f))
    by (Some b) f stops to_come =
        let r = first-ahead here b to_come (sym f) in
        punctuator_element-ends-at old (ahead here to_come) b r.0 r.1 stops

pub punctuator_element-passes : (old longer : Punctuator) (new here : Window) (to_come : Option (List ℕ))
    (first : Option ℕ)
    →
    new ≡ window_after_byte here → first ≡ slice_get here.at_hand 0 →
    option_and_then (λ b. punctuator_of (spelling old ++ b ∷ [])) first ≡ Some longer →
    to_read (in_punctuator longer) new to_come ≡ to_read (in_punctuator old) here to_come
punctuator_element-passes old longer new here to_come None n f h = absurd cc
punctuator_element-passes old longer new here to_come (Some b) n f h =
    to_read-pass (in_punctuator longer) (in_punctuator old) new here to_come (Some b) b n f refl
    (punctuator_element-grows old longer b h)

-- a punctuator with which no longer one begins
pub punctuator_element-whole : (old : Punctuator) (located_token : LocatedToken) (here : Window)
    (to_come : Option (List ℕ))
    →
    ((b : ℕ) → punctuator_of (spelling old ++ b ∷ []) ≡ None) →
    ((to_come : List ℕ) → located_token ≡ token_ending (variant.Punctuator old) (ahead here to_come)) →
    to_read (followed located_token) here to_come ≡ to_read (in_punctuator old) here to_come
punctuator_element-whole old located_token here to_come whole x =
    to_read-here (followed located_token) (in_punctuator old) here to_come
    (λ to_come. ap (λ l. followed l (ahead here to_come)) (x to_come) ∙
    by (ahead here to_come) (ahead here to_come).bytes refl)
  where
    by : (a : UnreadSource) (bytes : List ℕ) → a.bytes ≡ bytes →
        followed (token_ending (variant.Punctuator old) a) a ≡ in_punctuator old a
    by a [] e = punctuator_element-ends-none old a e
    by a (b ∷ rest) e = punctuator_element-ends-at old a b rest e (whole b)

-- one before a byte that makes no longer one
pub punctuator_element-ended : (old : Punctuator) (located_token : LocatedToken) (here : Window)
    (to_come : Option (List ℕ))
    (b : ℕ)
    → Some b ≡ slice_get here.at_hand 0 → punctuator_of (spelling old ++ b ∷ []) ≡ None →
    ((to_come : List ℕ) → located_token ≡ token_ending (variant.Punctuator old) (ahead here to_come)) →
    to_read (followed located_token) here to_come ≡ to_read (in_punctuator old) here to_come
punctuator_element-ended old located_token here to_come b f h x =
    to_read-here (followed located_token) (in_punctuator old) here to_come (λ to_come.
    let r = first-ahead here b to_come (sym f) in
    ap (λ l. followed l (ahead here to_come)) (x to_come) ∙
    punctuator_element-ends-at old (ahead here to_come) b r.0 r.1 h)
