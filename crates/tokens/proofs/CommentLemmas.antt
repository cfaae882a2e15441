-- Comments, a byte at a time.
use Rattle.std.proofs.Common.{◌≡◌, ℕ, zero, suc, ◌+◌, ◌≤◌, Bool, true, false, not, cond, eqb, Option, Some, None, List, [], ◌∷◌, refl, sym, ap, ◌∙◌, subst, arith, ◌≢◌}
use Rattle.std.specs.Prelude.{slice_get, ◌&&◌}
use Rattle.std.specs.List.{prefix_len}
use Rattle.std.specs.Option.{option_map, option_eq}
use Rattle.tokens.specs.InputElement.{begins_with, up_to_close}
use Rattle.tokens.specs.Tokens.{UnreadSource, ahead_after_byte, last_located_token, located_tokens}
use Rattle.tokens.specs.Window.{Window, ahead, window_after, window_after_byte, window_after_plain, IsAtHandOrEnd}
use Rattle.tokens.specs.Lexing.{to_read, in_comment, after_comment, closed_at}
use Rattle.tokens.specs.declared.located_tokens.LexicalError.TheVariants.{CommentNotClosed}
use Rattle.tokens.specs.declared.located_tokens.Token.TheVariants as token
use Rattle.tokens.specs.declared.windows.Beyond.{Beyond}
use Rattle.tokens.specs.declared.windows.Beyond.TheVariants.{Unread}
use Rattle.tokens.specs.declared.located_tokens.LocatedToken.{LocatedToken}
use Rattle.tokens.proofs.WindowLemmas.{held}
use Rattle.tokens.proofs.ToRead.{to_read-here, to_read-pass, to_read-unless, none-ahead}
use Rattle.tokens.proofs.LocatedTokensLemmas.{here, with_bytes}

-- after a `*` inside a comment
unfoldable pub in_star : ℕ → UnreadSource → List LocatedToken
in_star line a = cond (begins_with 47 a.bytes) (located_tokens (ahead_after_byte a)) (in_comment line a)

goes_on : (close : Option ℕ) (began line offset b : ℕ) (rest : List ℕ) (too_long : Bool) →
    closed_at close began (ahead_after_byte (here line offset (b ∷ rest) too_long)) ≡
    closed_at (option_map suc close) began (here line offset (b ∷ rest) too_long)
goes_on None began line offset b rest t = refl
goes_on (Some count) began line offset b rest t = refl

comment_element-passes-here : (began line offset b : ℕ) (rest : List ℕ) (too_long : Bool) → eqb b 42 ≡ false →
    in_comment began (ahead_after_byte (here line offset (b ∷ rest) too_long)) ≡
    in_comment began (here line offset (b ∷ rest) too_long)
unfolding in_comment
comment_element-passes-here began line offset b rest t e = by (eqb b 42) e
  where
    by : (s : Bool) → s ≡ false →
        in_comment began (ahead_after_byte (here line offset (b ∷ rest) t)) ≡
        closed_at (cond (s && begins_with 47 rest) (Some 2) (option_map suc (up_to_close rest))) began
        (here line offset (b ∷ rest) t)
    by true e = absurd cc
    by false e = goes_on (up_to_close rest) began line offset b rest t

-- a byte other than `*` is passed
pub comment_element-passes : (began b : ℕ) → eqb b 42 ≡ false → (a : UnreadSource) (rest : List ℕ) →
    a.bytes ≡ b ∷ rest →
    in_comment began (ahead_after_byte a) ≡ in_comment began a
comment_element-passes began b h a rest e =
    with_bytes (λ a. in_comment began (ahead_after_byte a) ≡ in_comment began a) a _ e
    (comment_element-passes-here began a.line a.offset b rest a.too_long h)

star-passes-here : (began line offset : ℕ) (rest : List ℕ) (too_long : Bool) →
    in_star began (ahead_after_byte (here line offset (42 ∷ rest) too_long)) ≡
    in_comment began (here line offset (42 ∷ rest) too_long)
unfolding in_star in_comment
star-passes-here began line offset rest t = by (begins_with 47 rest)
  where
    by : (s : Bool) →
        cond s (located_tokens (ahead_after_byte (ahead_after_byte (here line offset (42 ∷ rest) t))))
        (in_comment began (ahead_after_byte (here line offset (42 ∷ rest) t))) ≡
        closed_at (cond s (Some 2) (option_map suc (up_to_close rest))) began (here line offset (42 ∷ rest) t)
    by true = refl
    by false = goes_on (up_to_close rest) began line offset 42 rest t

pub star-passes : (began : ℕ) (a : UnreadSource) (rest : List ℕ) → a.bytes ≡ 42 ∷ rest →
    in_star began (ahead_after_byte a) ≡ in_comment began a
star-passes began a rest e =
    with_bytes (λ a. in_star began (ahead_after_byte a) ≡ in_comment began a) a _ e
    (star-passes-here began a.line a.offset rest a.too_long)

-- a `/` after the `*` closes the comment
pub slash-closes : (began : ℕ) (a : UnreadSource) (rest : List ℕ) → a.bytes ≡ 47 ∷ rest →
    located_tokens (ahead_after_byte a) ≡ in_star began a
unfolding in_star
slash-closes began a rest e =
    sym (ap (λ s. cond s (located_tokens (ahead_after_byte a)) (in_comment began a)) (ap (begins_with 47) e))

-- another byte, or none, doesn't close the comment
pub star-open : (began : ℕ) (here : Window) (to_come : Option (List ℕ)) (first : Option ℕ) → IsAtHandOrEnd here →
    first ≡ slice_get here.at_hand 0 → option_eq eqb first (Some 47) ≡ false →
    to_read (in_comment began) here to_come ≡ to_read (in_star began) here to_come
unfolding in_star
star-open began = to_read-unless 47 (λ a. located_tokens (ahead_after_byte a)) (in_comment began)

-- plain bytes leave the comment as it is
plain-here : (began : ℕ) (to_come : Option (List ℕ)) (n line offset taken : ℕ) (xs : List ℕ) (beyond : Beyond) →
    n ≤ prefix_len (λ b. not (eqb b 42)) xs →
    to_read (in_comment began) (window_after n (held line offset xs taken beyond)) to_come ≡
    to_read (in_comment began) (held line offset xs taken beyond) to_come
plain-here began to_come zero line offset taken xs beyond h = refl
plain-here began to_come (suc n) line offset taken [] beyond h = absurd (omega (arith, h))
plain-here began to_come (suc n) line offset taken (b ∷ xs) beyond h =
    let next = window_after_byte (held line offset (b ∷ xs) taken beyond) in
    by (eqb b 42) refl h (plain-here began to_come n next.line next.offset next.taken xs beyond)
  where
    by : (s : Bool) → eqb b 42 ≡ s → suc n ≤ cond (not s) (1 + prefix_len (λ b. not (eqb b 42)) xs) 0 →
        (n ≤ prefix_len (λ b. not (eqb b 42)) xs →
        to_read (in_comment began) (window_after n (window_after_byte (held line offset (b ∷ xs) taken beyond))) to_come
        ≡
        to_read (in_comment began) (window_after_byte (held line offset (b ∷ xs) taken beyond)) to_come) →
        to_read (in_comment began) (window_after (suc n) (held line offset (b ∷ xs) taken beyond)) to_come ≡
        to_read (in_comment began) (held line offset (b ∷ xs) taken beyond) to_come
    by true e h f = absurd (omega (arith, h))
    by false e h f =
        f (omega (arith, h)) ∙
        to_read-pass (in_comment began) (in_comment began) (window_after_byte (held line offset (b ∷ xs) taken beyond))
        (held line offset (b ∷ xs) taken beyond) to_come (Some b) b refl refl refl (comment_element-passes began b e)

pub plain-passes : (began : ℕ) (new here : Window) (to_come : Option (List ℕ)) → new ≡ window_after_plain here →
    to_read (in_comment began) new to_come ≡ to_read (in_comment began) here to_come
plain-passes began new here to_come n =
    ap (λ h. to_read (in_comment began) h to_come) n ∙
    plain-here began to_come (prefix_len (λ b. not (eqb b 42)) here.at_hand) here.line here.offset here.taken
    here.at_hand
    here.beyond (omega arith)

-- the source ends within the comment
pub comment_element-ended : (began : ℕ) (here : Window) (to_come : Option (List ℕ)) (first : Option ℕ) →
    IsAtHandOrEnd here →
    first ≡ slice_get here.at_hand 0 → first ≡ None →
    to_read (after_comment false began) here to_come ≡ to_read (in_comment began) here to_come
unfolding in_comment
comment_element-ended began here to_come first ready f e =
    to_read-here (after_comment false began) (in_comment began) here to_come (λ to_come.
    let a = ahead here to_come in
    subst
    (λ (xs : List ℕ). last_located_token (token.Fault CommentNotClosed) began a ∷ [] ≡
    closed_at (up_to_close xs) began (record { line = a.line; offset = a.offset; bytes = xs; too_long = a.too_long }))
    (sym (none-ahead here to_come ready (sym f ∙ e)))
    (subst
    (λ (xs : List ℕ).
    last_located_token (token.Fault CommentNotClosed) began
    (record { line = a.line; offset = a.offset; bytes = xs; too_long = a.too_long }) ∷ [] ≡
    last_located_token (token.Fault CommentNotClosed) began
    (record { line = a.line; offset = a.offset; bytes = []; too_long = a.too_long }) ∷ [])
    (sym (none-ahead here to_come ready (sym f ∙ e))) refl))

pub ended-beyond : (here : Window) (first : Option ℕ) → IsAtHandOrEnd here → first ≡ slice_get here.at_hand 0 →
    first ≡ None → here.beyond ≢ Unread
ended-beyond here first ready f e = by here.at_hand ready (sym f ∙ e)
  where
    by : (xs : List ℕ) → (xs ≡ [] → here.beyond ≢ Unread) → slice_get xs 0 ≡ None → here.beyond ≢ Unread
    by [] h e = h refl
    by (x ∷ xs) h e = absurd cc
