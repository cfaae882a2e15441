-- How a token begins.
use Rattle.std.proofs.Common.{◌≡◌, ℕ, ◌+◌, ◌-◌, ◌*◌, Bool, true, false, not, cond, eqb, Option, Some, None, List, [], ◌∷◌, ◌++◌, length, drop, refl, sym, ap, ◌∙◌, subst, arith, ◌≢◌}
use Rattle.std.specs.Prelude.{slice_get, ◌&&◌}
use Rattle.std.specs.Option.{option_or, option_eq}
use Rattle.std.proofs.lemmas.Bool.{eqb-true, ne_eqb}
use Rattle.tokens.specs.Characters.{is_blank, is_letter, is_digit, is_name_byte}
use Rattle.tokens.specs.Punctuators.{longest_punctuator, spelling, punctuator_of}
use Rattle.tokens.specs.InputElement.{InputElement, token_span, comment_element, punctuator_element, up_to_close, begins_with, name_token, constant_token, input_element}
use Rattle.tokens.specs.Tokens.{UnreadSource, ahead_after_byte, line_after, ahead_after, last_located_token, followed_by, is_last, tokens_of_element, located_tokens}
use Rattle.tokens.specs.Cursors.{FitsToken}
use Rattle.tokens.specs.Window.{Window, IsAtHandOrEnd}
use Rattle.tokens.specs.Lexing.{to_read, followed, token_ending, in_token_span, in_name, name_going_on, in_constant, constant_going_on, in_punctuator, extended, in_comment, closed_at}
use Rattle.tokens.specs.declared.located_tokens.Punctuator.{Punctuator}
use Rattle.tokens.specs.declared.located_tokens.Punctuator.TheVariants.{Slash}
use Rattle.tokens.specs.declared.located_tokens.LexicalError.TheVariants.{BadCharacter}
use Rattle.tokens.specs.declared.located_tokens.Token.{Token}
use Rattle.tokens.specs.declared.located_tokens.Token.TheVariants as variant
use Rattle.tokens.specs.declared.located_tokens.LocatedToken.{LocatedToken}
use Rattle.tokens.proofs.LocatedTokensLemmas.{located_tokens-input_element, letter-is_name_byte, here, with_bytes}
use Rattle.tokens.proofs.TokenLemmas.{chosen, other, token_span-takes, no_line}
use Rattle.tokens.proofs.PunctuatorLemmas.{punctuator_of-spelled, punctuator_element-located_token, none-of-two, none-of-three, none-of-four}
use Rattle.tokens.proofs.ToRead.{to_read-unless}

located_tokens-by : (b : ℕ) (f : InputElement) (a : UnreadSource) (rest : List ℕ) → a.bytes ≡ b ∷ rest →
    input_element (b ∷ rest) ≡ f →
    located_tokens a ≡ tokens_of_element f a located_tokens
located_tokens-by b f a rest e h =
    located_tokens-input_element a ∙ ap (λ x. tokens_of_element x a located_tokens) (ap input_element e ∙ h)

in_token_span-is : (test : ℕ → Bool) (token_of : List ℕ → Token) (a : UnreadSource) →
    tokens_of_element (token_span test token_of a.bytes) a located_tokens ≡ in_token_span test token_of a
unfolding in_token_span followed
in_token_span-is test token_of a = refl

token_span-begins : (test : ℕ → Bool) (token_of going_on : List ℕ → Token) (b : ℕ) → test 10 ≡ false → test b ≡ true →
    ((rest : List ℕ) → input_element (b ∷ rest) ≡ token_span test token_of (b ∷ rest)) →
    ((more : List ℕ) → going_on more ≡ token_of (b ∷ more)) → (a : UnreadSource) (rest : List ℕ) → a.bytes ≡ b ∷ rest →
    in_token_span test going_on (ahead_after_byte a) ≡ located_tokens a
token_span-begins test token_of going_on b n h f s a rest e =
    token_span-takes test token_of going_on b n h s a rest e
    ∙ sym (located_tokens-by b (token_span test token_of (b ∷ rest)) a rest e (f rest)
    ∙ ap (λ bytes. tokens_of_element (token_span test token_of bytes) a located_tokens) (sym e) ∙
    in_token_span-is test token_of a)

-- a letter begins a name
pub name-begins : (b : ℕ) → is_blank b ≡ false → is_letter b ≡ true → (a : UnreadSource) (rest : List ℕ) →
    a.bytes ≡ b ∷ rest →
    in_name (b ∷ []) false (ahead_after_byte a) ≡ located_tokens a
name-begins b no_blank letter =
    token_span-begins is_name_byte name_token (name_going_on (b ∷ []) false) b refl (letter-is_name_byte b letter)
    (λ rest. other (is_blank b) _ _ no_blank ∙ chosen (is_letter b) _ _ letter) (λ more. refl)

-- a digit begins a constant
pub constant-begins : (b : ℕ) → is_blank b ≡ false → is_letter b ≡ false → is_digit b ≡ true →
    (a : UnreadSource) (rest : List ℕ) → a.bytes ≡ b ∷ rest →
    in_constant (b - 48) (ahead_after_byte a) ≡ located_tokens a
constant-begins b no_blank no_letter digit =
    token_span-begins is_digit constant_token (constant_going_on (b - 48)) b refl digit
    (λ rest. other (is_blank b) _ _ no_blank ∙ (other (is_letter b) _ _ no_letter ∙ chosen (is_digit b) _ _ digit))
    (λ more. let d : b - 48 ≡ 10 * 0 + (b - 48) = omega arith in ap (λ v. constant_going_on v more) d)

chosen-punctuator_element : (m : Punctuator) (a : UnreadSource) (bytes rest : List ℕ) (n : ℕ) →
    punctuator_of bytes ≡ Some m →
    a.bytes ≡ bytes ++ rest → length bytes ≡ n →
    tokens_of_element (punctuator_element (Some m)) a located_tokens ≡
    followed (token_ending (variant.Punctuator m) (ahead_after n a)) (ahead_after n a)
unfolding followed
chosen-punctuator_element m a bytes rest n h e l =
    let s = punctuator_of-spelled bytes m h in
    let k : length (spelling m) ≡ n = ap length (sym s) ∙ l in
    ap (λ x. followed_by x (located_tokens (ahead_after (length (spelling m)) a)))
    (punctuator_element-located_token m a rest (e ∙ ap (λ xs. xs ++ rest) s))
    ∙ ap (λ j. followed_by (token_ending (variant.Punctuator m) (ahead_after j a)) (located_tokens (ahead_after j a))) k

grow_by : Option Punctuator → Punctuator → List ℕ → UnreadSource → List LocatedToken
grow_by None m rest a = followed (token_ending (variant.Punctuator m) a) a
grow_by (Some longer) m rest a = extended longer rest (ahead_after_byte a)

extended-step : (m : Punctuator) (bytes : List ℕ) (c : ℕ) (rest : List ℕ) (a : UnreadSource) (o : Option Punctuator) →
    punctuator_of bytes ≡ Some m → punctuator_of (bytes ++ c ∷ []) ≡ o → extended m (c ∷ rest) a ≡ grow_by o m rest a
unfolding grow_by
extended-step m bytes c rest a o h e =
    by (punctuator_of (spelling m ++ c ∷ [])) o
    (ap (λ s. punctuator_of (s ++ c ∷ [])) (sym (punctuator_of-spelled bytes m h)) ∙ e)
  where
    by : (x o : Option Punctuator) → x ≡ o →
        elim x [
          | None ↦ followed (token_ending (variant.Punctuator m) a) a
          | Some longer ↦ extended longer rest (ahead_after_byte a)
        ]
        ≡ grow_by o m rest a
    by None None e = refl
    by None (Some k) e = absurd cc
    by (Some x) None e = absurd cc
    by (Some x) (Some k) e = let d : x ≡ k = cc in ap (λ k. extended k rest (ahead_after_byte a)) d

by-longest : (m : Punctuator) (b : ℕ) (rest : List ℕ) (a : UnreadSource) → longest_punctuator (b ∷ rest) ≡ Some m →
    tokens_of_element (punctuator_element (longest_punctuator (b ∷ rest))) a located_tokens ≡
    tokens_of_element (punctuator_element (Some m)) a located_tokens
by-longest m b rest a e = ap (λ o. tokens_of_element (punctuator_element o) a located_tokens) e

or-first : (x y : Option Punctuator) (m : Punctuator) → x ≡ Some m → option_or x y ≡ Some m
or-first None y m e = absurd cc
or-first (Some x) y m e = e

or-second : (x y : Option Punctuator) → x ≡ None → option_or x y ≡ y
or-second None y e = refl
or-second (Some x) y e = absurd cc

longest-one : (m : Punctuator) (b c : ℕ) (rest : List ℕ) → punctuator_of (b ∷ []) ≡ Some m →
    punctuator_of (b ∷ c ∷ []) ≡ None → longest_punctuator (b ∷ c ∷ rest) ≡ Some m
longest-one m b c [] h e = or-second _ _ e ∙ (or-second _ _ e ∙ h)
longest-one m b c (d ∷ rest) h e = or-second _ _ (none-of-three b c d e) ∙ (or-second _ _ e ∙ h)

extended-three : (m : Punctuator) (b c d : ℕ) (rest : List ℕ) (a : UnreadSource) →
    punctuator_of (b ∷ c ∷ d ∷ []) ≡ Some m →
    extended m rest a ≡ followed (token_ending (variant.Punctuator m) a) a
unfolding grow_by
extended-three m b c d [] a h = refl
extended-three m b c d (x ∷ rest) a h = extended-step m (b ∷ c ∷ d ∷ []) x rest a None h (none-of-four b c d x)

punctuator_element-here : (m : Punctuator) (b line offset : ℕ) (rest : List ℕ) (too_long : Bool) →
    punctuator_of (b ∷ []) ≡ Some m →
    tokens_of_element (punctuator_element (longest_punctuator (b ∷ rest))) (here line offset (b ∷ rest) too_long)
    located_tokens ≡
    extended m rest (ahead_after_byte (here line offset (b ∷ rest) too_long))
unfolding grow_by
punctuator_element-here m b line offset [] t h =
    let a = here line offset (b ∷ []) t in
    by-longest m b [] a (or-first _ _ m h) ∙ chosen-punctuator_element m a (b ∷ []) [] 1 h refl refl
punctuator_element-here m b line offset (c ∷ []) t h = by (punctuator_of (b ∷ c ∷ [])) refl
  where
    a : UnreadSource
    a = here line offset (b ∷ c ∷ []) t

    by : (o : Option Punctuator) → punctuator_of (b ∷ c ∷ []) ≡ o →
        tokens_of_element (punctuator_element (longest_punctuator (b ∷ c ∷ []))) a located_tokens ≡
        extended m (c ∷ []) (ahead_after_byte a)
    by None e =
        by-longest m b (c ∷ []) a (longest-one m b c [] h e) ∙
        (chosen-punctuator_element m a (b ∷ []) (c ∷ []) 1 h refl refl ∙
        sym (extended-step m (b ∷ []) c [] (ahead_after_byte a) None h e))
    by (Some k) e =
        by-longest k b (c ∷ []) a (or-first _ _ k e) ∙
        (chosen-punctuator_element k a (b ∷ c ∷ []) [] 2 e refl refl ∙
        sym (extended-step m (b ∷ []) c [] (ahead_after_byte a) (Some k) h e))
punctuator_element-here m b line offset (c ∷ d ∷ rest) t h = by (punctuator_of (b ∷ c ∷ [])) refl
  where
    a : UnreadSource
    a = here line offset (b ∷ c ∷ d ∷ rest) t

    three : (k : Punctuator) (o : Option Punctuator) → punctuator_of (b ∷ c ∷ []) ≡ Some k →
        punctuator_of (b ∷ c ∷ d ∷ []) ≡ o →
        tokens_of_element (punctuator_element (longest_punctuator (b ∷ c ∷ d ∷ rest))) a located_tokens ≡
        extended k (d ∷ rest) (ahead_after_byte (ahead_after_byte a))
    three k None e f =
        by-longest k b (c ∷ d ∷ rest) a (or-second _ _ f ∙ or-first _ _ k e) ∙
        (chosen-punctuator_element k a (b ∷ c ∷ []) (d ∷ rest) 2 e refl refl ∙
        sym (extended-step k (b ∷ c ∷ []) d rest (ahead_after_byte (ahead_after_byte a)) None e f))
    three k (Some x) e f =
        by-longest x b (c ∷ d ∷ rest) a (or-first _ _ x f) ∙
        (chosen-punctuator_element x a (b ∷ c ∷ d ∷ []) rest 3 f refl refl
        ∙
        (sym (extended-three x b c d rest (ahead_after_byte (ahead_after_byte (ahead_after_byte a))) f) ∙
        sym (extended-step k (b ∷ c ∷ []) d rest (ahead_after_byte (ahead_after_byte a)) (Some x) e f)))

    by : (o : Option Punctuator) → punctuator_of (b ∷ c ∷ []) ≡ o →
        tokens_of_element (punctuator_element (longest_punctuator (b ∷ c ∷ d ∷ rest))) a located_tokens ≡
        extended m (c ∷ d ∷ rest) (ahead_after_byte a)
    by None e =
        by-longest m b (c ∷ d ∷ rest) a (longest-one m b c (d ∷ rest) h e) ∙
        (chosen-punctuator_element m a (b ∷ []) (c ∷ d ∷ rest) 1 h refl refl ∙
        sym (extended-step m (b ∷ []) c (d ∷ rest) (ahead_after_byte a) None h e))
    by (Some k) e =
        three k (punctuator_of (b ∷ c ∷ d ∷ [])) e refl ∙
        sym (extended-step m (b ∷ []) c (d ∷ rest) (ahead_after_byte a) (Some k) h e)

-- a punctuator of one byte begins a punctuator, if no other input element begins there
pub punctuator_element-begins : (m : Punctuator) (b : ℕ) → punctuator_of (b ∷ []) ≡ Some m →
    (a : UnreadSource) (rest : List ℕ) →
    a.bytes ≡ b ∷ rest → input_element (b ∷ rest) ≡ punctuator_element (longest_punctuator (b ∷ rest)) →
    in_punctuator m (ahead_after_byte a) ≡ located_tokens a
unfolding in_punctuator
punctuator_element-begins m b h a rest e f =
    sym (located_tokens-by b (punctuator_element (longest_punctuator (b ∷ rest))) a rest e f
    ∙
    with_bytes
    (λ a. tokens_of_element (punctuator_element (longest_punctuator (b ∷ rest))) a located_tokens ≡
    in_punctuator m (ahead_after_byte a)) a _ e
    (punctuator_element-here m b a.line a.offset rest a.too_long h))

input_element-punctuator_element : (b : ℕ) (rest : List ℕ) → is_blank b ≡ false → is_letter b ≡ false →
    is_digit b ≡ false →
    b ≢ 47 →
    input_element (b ∷ rest) ≡ punctuator_element (longest_punctuator (b ∷ rest))
input_element-punctuator_element b rest no_blank no_letter no_digit no_slash =
    other (is_blank b) _ _ no_blank ∙ (other (is_letter b) _ _ no_letter ∙ (other (is_digit b) _ _ no_digit
    ∙ other (eqb b 47 && begins_with 42 rest) _ _ (ap (λ t. t && begins_with 42 rest) (ne_eqb b 47 no_slash))))

-- a byte that is a punctuator begins one
pub other-begins : (m : Punctuator) (b : ℕ) → is_blank b ≡ false → is_letter b ≡ false → is_digit b ≡ false → b ≢ 47 →
    punctuator_of (b ∷ []) ≡ Some m → (a : UnreadSource) (rest : List ℕ) → a.bytes ≡ b ∷ rest →
    in_punctuator m (ahead_after_byte a) ≡ located_tokens a
other-begins m b no_blank no_letter no_digit no_slash h a rest e =
    punctuator_element-begins m b h a rest e
    (input_element-punctuator_element b rest no_blank no_letter no_digit no_slash)

longest-none : (b : ℕ) (rest : List ℕ) → punctuator_of (b ∷ []) ≡ None → longest_punctuator (b ∷ rest) ≡ None
longest-none b [] h = or-second _ _ h ∙ (or-second _ _ h ∙ h)
longest-none b (c ∷ []) h = let e = none-of-two b c h in or-second _ _ e ∙ (or-second _ _ e ∙ h)
longest-none b (c ∷ d ∷ rest) h =
    let e = none-of-two b c h in or-second _ _ (none-of-three b c d e) ∙ (or-second _ _ e ∙ h)

-- a blank ends a line
blank_line : (b : ℕ) → is_blank b ≡ false → eqb b 10 ≡ false
blank_line b h = no_line (λ c. not (is_blank c)) b refl (ap not h)

bad-here : (b line offset : ℕ) (rest : List ℕ) (too_long : Bool) → eqb b 10 ≡ false →
    followed (token_ending (variant.Fault BadCharacter) (ahead_after_byte (here line offset (b ∷ rest) too_long)))
    (ahead_after_byte (here line offset (b ∷ rest) too_long)) ≡
    tokens_of_element (punctuator_element None) (here line offset (b ∷ rest) too_long) located_tokens
unfolding followed
bad-here b line offset rest t h =
    let l : line_after b line ≡ line = other (eqb b 10) _ _ h in
    ap (λ n. let x : LocatedToken = record { token = variant.Fault BadCharacter; line = n; end = offset + 1 } in x ∷ [])
    l

-- any other byte is a bad character
pub bad-begins : (b : ℕ) → is_blank b ≡ false → is_letter b ≡ false → is_digit b ≡ false → b ≢ 47 →
    punctuator_of (b ∷ []) ≡ None → (a : UnreadSource) (rest : List ℕ) → a.bytes ≡ b ∷ rest →
    followed (token_ending (variant.Fault BadCharacter) (ahead_after_byte a)) (ahead_after_byte a) ≡ located_tokens a
bad-begins b no_blank no_letter no_digit no_slash h a rest e =
    with_bytes
    (λ a. followed (token_ending (variant.Fault BadCharacter) (ahead_after_byte a)) (ahead_after_byte a) ≡
    tokens_of_element (punctuator_element None) a located_tokens) a _ e
    (bad-here b a.line a.offset rest a.too_long (blank_line b no_blank))
    ∙
    sym
    (located_tokens-by b (punctuator_element None) a rest e
    (input_element-punctuator_element b rest no_blank no_letter no_digit no_slash ∙
    ap punctuator_element (longest-none b rest h)))

-- after a `/` on this line
unfoldable pub in_slash : ℕ → UnreadSource → List LocatedToken
in_slash line a = cond (begins_with 42 a.bytes) (in_comment line (ahead_after_byte a)) (in_punctuator Slash a)

slash-star : (line offset : ℕ) (rest : List ℕ) (too_long : Bool) →
    tokens_of_element (comment_element (up_to_close rest)) (here line offset (47 ∷ 42 ∷ rest) too_long) located_tokens ≡
    in_comment line (ahead_after_byte (ahead_after_byte (here line offset (47 ∷ 42 ∷ rest) too_long)))
unfolding in_comment
slash-star line offset rest t = by (up_to_close rest)
  where
    by : (o : Option ℕ) →
        tokens_of_element (comment_element o) (here line offset (47 ∷ 42 ∷ rest) t) located_tokens ≡
        closed_at o line (ahead_after_byte (ahead_after_byte (here line offset (47 ∷ 42 ∷ rest) t)))
    by None = refl
    by (Some n) = refl

slash-here : (line offset : ℕ) (rest : List ℕ) (too_long : Bool) →
    in_slash line (ahead_after_byte (here line offset (47 ∷ rest) too_long)) ≡
    located_tokens (here line offset (47 ∷ rest) too_long)
unfolding in_slash punctuator_of
slash-here line offset [] t = punctuator_element-begins Slash 47 refl (here line offset (47 ∷ []) t) [] refl refl
slash-here line offset (b ∷ rest) t = by (eqb b 42) refl
  where
    a : UnreadSource
    a = here line offset (47 ∷ b ∷ rest) t

    by : (s : Bool) → eqb b 42 ≡ s →
        cond s (in_comment line (ahead_after_byte (ahead_after_byte a))) (in_punctuator Slash (ahead_after_byte a)) ≡
        located_tokens a
    by true e =
        subst
        (λ (x : ℕ). in_comment line (ahead_after_byte (ahead_after_byte (here line offset (47 ∷ x ∷ rest) t))) ≡
        located_tokens (here line offset (47 ∷ x ∷ rest) t)) (sym (eqb-true b 42 e))
        (sym (located_tokens-input_element (here line offset (47 ∷ 42 ∷ rest) t) ∙ slash-star line offset rest t))
    by false e =
        punctuator_element-begins Slash 47 refl a (b ∷ rest) refl
        (ap
        (λ s. cond s (comment_element (up_to_close (drop 1 (b ∷ rest))))
        (punctuator_element (longest_punctuator (47 ∷ b ∷ rest))))
        e)

-- a `/` begins a comment or a punctuator
pub slash-begins : (line : ℕ) (a : UnreadSource) (rest : List ℕ) → a.bytes ≡ 47 ∷ rest → a.line ≡ line →
    in_slash line (ahead_after_byte a) ≡ located_tokens a
slash-begins line a rest e l =
    subst (λ (n : ℕ). in_slash n (ahead_after_byte a) ≡ located_tokens a) l
    (with_bytes (λ a. in_slash a.line (ahead_after_byte a) ≡ located_tokens a) a _ e
    (slash-here a.line a.offset rest a.too_long))

-- a `*` after it begins a comment
pub star-begins : (line : ℕ) (a : UnreadSource) (rest : List ℕ) → a.bytes ≡ 42 ∷ rest →
    in_comment line (ahead_after_byte a) ≡ in_slash line a
unfolding in_slash
star-begins line a rest e =
    sym (ap (λ s. cond s (in_comment line (ahead_after_byte a)) (in_punctuator Slash a)) (ap (begins_with 42) e))

-- and nothing else does
pub slash-stays : (line : ℕ) (here : Window) (to_come : Option (List ℕ)) (first : Option ℕ) → IsAtHandOrEnd here →
    first ≡ slice_get here.at_hand 0 → option_eq eqb first (Some 42) ≡ false →
    to_read (in_punctuator Slash) here to_come ≡ to_read (in_slash line) here to_come
unfolding in_slash
slash-stays line = to_read-unless 42 (λ a. in_comment line (ahead_after_byte a)) (in_punctuator Slash)

pub not_true : (t : Bool) → true ≡ not t → t ≡ false
not_true true e = absurd cc
not_true false e = refl

pub not_false : (t : Bool) → false ≡ not t → t ≡ true
not_false true e = refl
not_false false e = absurd cc

-- nothing follows the last token
pub last-followed : (token : Token) (line : ℕ) (a : UnreadSource) → is_last token ≡ true →
    followed (last_located_token token line a) a ≡ last_located_token token line a ∷ []
unfolding followed
last-followed token line a h = by a.too_long
  where
    by : (t : Bool) →
        followed_by (last_located_token token line (here a.line a.offset a.bytes t)) (located_tokens a) ≡
        last_located_token token line (here a.line a.offset a.bytes t) ∷ []
    by true = refl
    by false =
        ap
        (λ s. (let x : LocatedToken = record { token = token; line = line; end = a.offset } in x) ∷
        cond s [] (located_tokens a)) h

pub last-is_last : (token : Token) (line : ℕ) (a : UnreadSource) → is_last token ≡ true →
    is_last (last_located_token token line a).token ≡ true
last-is_last token line a h = by a.too_long
  where
    by : (t : Bool) → is_last (last_located_token token line (here a.line a.offset a.bytes t)).token ≡ true
    by true = refl
    by false = h

-- the last token fits if this one does
pub last-fits : (token : Token) (line : ℕ) (a : UnreadSource) → FitsToken token →
    FitsToken (last_located_token token line a).token
last-fits token line a h = by a.too_long
  where
    by : (t : Bool) → FitsToken (last_located_token token line (here a.line a.offset a.bytes t)).token
    by true = tt
    by false = h
