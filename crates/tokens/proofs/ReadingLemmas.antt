-- What a cursor shows, when it is opened and as it goes on.
use Rattle.std.proofs.Common.{◌≡◌, ℕ, ◌+◌, ◌-◌, ◌<◌, ◌≤◌, Bool, true, false, cond, Option, Some, None, List, [], ◌∷◌, ◌++◌, drop, refl, sym, ap, ◌∙◌, arith, subst}
use Rattle.std.specs.Option.{option_map}
use Rattle.std.proofs.lemmas.Option.{same_Some}
use Rattle.tokens.specs.Source.{source}
use Rattle.tokens.specs.Tokens.{is_last, followed_by, located_tokens, ahead_of_source, tokens}
use Rattle.tokens.specs.Ends.{StaysUndecided, is_decided_by_last_byte, last_undecided_until, undecided_until}
use Rattle.tokens.specs.Window.{Window, ahead, untouched}
use Rattle.tokens.specs.Lexing.{to_read, followed}
use Rattle.tokens.specs.Cursors.{Cursor, shown, tokens_after_lookahead, most_left, undecided_reach_of, reach_of}
use Rattle.tokens.specs.declared.located_tokens.LocatedToken.{LocatedToken}
use Rattle.tokens.proofs.EndLemmas.{located_tokens-nonempty, located_tokens-open, tokens-open}

abbrev reading : LocatedToken → LocatedToken → Window → Cursor
reading next after behind = record { next = next; after = after; window = behind }

-- the token after the next one was read
pub shown-read : (next after : LocatedToken) (new old : Window) (to_come' to_come : Option (List ℕ)) →
    to_read (followed after) new to_come' ≡ to_read located_tokens old to_come →
    shown (reading next after new) to_come' ≡ to_read (followed next) old to_come
unfolding to_read followed tokens_after_lookahead
shown-read next after new old None None e = refl
shown-read next after new old None (Some t) e = absurd cc
shown-read next after new old (Some t') None e = absurd cc
shown-read next after new old (Some t') (Some t) e =
    ap (λ xs. Some (followed_by next xs))
    (same_Some (followed_by after (located_tokens (ahead new t'))) (located_tokens (ahead old t)) e)

-- there is none
pub shown-last : (next after : LocatedToken) (behind : Window) (to_come : Option (List ℕ)) → is_last next.token ≡ true →
    shown (reading next after behind) to_come ≡ to_read (followed next) behind to_come
unfolding to_read followed tokens_after_lookahead
shown-last next after behind None e = refl
shown-last next after behind (Some t) e =
    ap (λ s. Some (next ∷ cond s [] (followed_by after (located_tokens (ahead behind t))))) e ∙
    sym (ap (λ s. Some (next ∷ cond s [] (located_tokens (ahead behind t)))) e)

-- at the beginning
pub shown-opened : (to_come : Option (List ℕ)) → to_read located_tokens untouched to_come ≡ option_map tokens to_come
unfolding to_read tokens
shown-opened None = refl
shown-opened (Some bytes) = refl

-- after the next token
pub shown-advanced : (next after located_token : LocatedToken) (new old : Window) (to_come' to_come : Option (List ℕ)) →
    is_last next.token ≡ false → to_read (followed located_token) new to_come' ≡ to_read located_tokens old to_come →
    shown (reading after located_token new) to_come' ≡ option_map (drop 1) (shown (reading next after old) to_come)
unfolding to_read followed tokens_after_lookahead
shown-advanced next after located_token new old to_come' to_come not_last e =
    shown-read after located_token new old to_come' to_come e ∙ by to_come
  where
    by : (to_come : Option (List ℕ)) →
        to_read (followed after) old to_come ≡ option_map (drop 1) (shown (reading next after old) to_come)
    by None = refl
    by (Some t) = sym (ap (λ s. Some (cond s [] (followed_by after (located_tokens (ahead old t))))) not_last)

abbrev left : Bool → Bool → ℕ → ℕ
left next_last after_last offset = cond next_last 0 (cond after_last 1 (2 + (1048576 - offset)))

pub most_left-bounded : (r : Cursor) → most_left r ≤ 1048578
unfolding most_left
most_left-bounded r = by (is_last r.next.token) (is_last r.after.token)
  where
    by : (s t : Bool) → left s t r.window.offset ≤ 1048578
    by true t = omega arith
    by false true = omega arith
    by false false = omega arith

pub most_left-advanced : (next after located_token : LocatedToken) (new old : Window) → is_last next.token ≡ false →
    is_last after.token ≡ false → (is_last located_token.token ≡ false → old.offset < new.offset) →
    new.offset ≤ 1048576 →
    most_left (reading after located_token new) < most_left (reading next after old)
unfolding most_left
most_left-advanced next after located_token new old n a further within =
    by (is_last next.token) (is_last after.token) (is_last located_token.token) n a further
  where
    by : (s t u : Bool) → s ≡ false → t ≡ false → (u ≡ false → old.offset < new.offset) →
        left t u new.offset < left s t old.offset
    by true t u n a f = absurd cc
    by false true u n a f = absurd cc
    by false false true n a f = omega arith
    by false false false n a f = omega (arith, f refl)

pub most_left-ended : (next after after' : LocatedToken) (new old : Window) → is_last next.token ≡ false →
    is_last after.token ≡ true → most_left (reading after after' new) < most_left (reading next after old)
unfolding most_left
most_left-ended next after after' new old n a = by (is_last next.token) (is_last after.token) n a
  where
    by : (s t : Bool) → s ≡ false → t ≡ true → left t (is_last after'.token) new.offset < left s t old.offset
    by true t n a = absurd cc
    by false true n a = omega arith
    by false false n a = absurd cc

-- how far a read came that failed
pub open-end : (x : LocatedToken) → undecided_until x ≤ x.end
open-end x = by (is_decided_by_last_byte x.token)
  where
    by : (t : Bool) → cond t (x.end - 1) x.end ≤ x.end
    by true = omega arith
    by false = omega arith

reach-first : (offset : ℕ) (first : LocatedToken) (others : List LocatedToken) →
    StaysUndecided offset (first ∷ others) →
    undecided_until first ≤ undecided_reach_of (first ∷ others)
reach-first offset first [] r = omega arith
reach-first offset first (x ∷ others) r = omega (arith, r.1.0, open-end first)

pub opened-stopped : (bytes : List ℕ) (n : ℕ) (window : Window) (to_come : Option (List ℕ)) → window ≡ untouched →
    to_come ≡ Some bytes →
    ((first : LocatedToken) (others : List LocatedToken) →
    to_read located_tokens window to_come ≡ Some (first ∷ others) →
    n ≤ undecided_until first) → n ≤ undecided_reach_of (tokens bytes)
unfolding tokens
opened-stopped bytes n window to_come w t f =
    let some = located_tokens-nonempty (ahead_of_source (source bytes)) in
    let here =
    ap (λ h. to_read located_tokens h to_come) w ∙ ap (to_read located_tokens untouched) t ∙
    shown-opened (Some bytes) in
    let rising = subst (StaysUndecided 0) some.2 (located_tokens-open (ahead_of_source (source bytes))) in
    subst (λ (xs : List LocatedToken). n ≤ undecided_reach_of xs) (sym some.2)
    (omega (arith, f some.0 some.1 (here ∙ ap Some some.2), reach-first 0 some.0 some.1 rising))

pub second-stopped : (bytes : List ℕ) (n : ℕ) (next : LocatedToken) (first second : Window)
    (to_come to_come' : Option (List ℕ))
    → first ≡ untouched → to_come ≡ Some bytes → is_last next.token ≡ false →
    to_read (followed next) second to_come' ≡ to_read located_tokens first to_come →
    ((x : LocatedToken) (others : List LocatedToken) → to_read located_tokens second to_come' ≡ Some (x ∷ others) →
    n ≤ undecided_until x) → n ≤ undecided_reach_of (tokens bytes)
unfolding to_read followed
second-stopped bytes n next first second to_come to_come' w t last e f =
    by to_come'
    (e ∙ ap (λ h. to_read located_tokens h to_come) w ∙ ap (to_read located_tokens untouched) t ∙
    shown-opened (Some bytes)) f
  where
    by : (to_come' : Option (List ℕ)) → to_read (followed next) second to_come' ≡ Some (tokens bytes) →
        ((x : LocatedToken) (others : List LocatedToken) → to_read located_tokens second to_come' ≡ Some (x ∷ others) →
        n ≤ undecided_until x) → n ≤ undecided_reach_of (tokens bytes)
    by None e f = absurd cc
    by (Some to_come) e f =
        let some = located_tokens-nonempty (ahead second to_come) in
        let is : tokens bytes ≡ next ∷ some.0 ∷ some.1 =
        sym (same_Some _ _ e) ∙ ap (λ s. next ∷ cond s [] (located_tokens (ahead second to_come))) last ∙
        ap (λ xs. next ∷ xs) some.2 in
        subst (λ (xs : List LocatedToken). n ≤ undecided_reach_of xs) (sym is) (f some.0 some.1 (ap Some some.2))

pub advanced-stopped : (n : ℕ) (next after : LocatedToken) (window : Window) (to_come : Option (List ℕ)) →
    is_last next.token ≡ false → is_last after.token ≡ false →
    ((first : LocatedToken) (others : List LocatedToken) →
    to_read located_tokens window to_come ≡ Some (first ∷ others) →
    n ≤ undecided_until first) → (x : LocatedToken) (others : List LocatedToken) →
    shown (reading next after window) to_come ≡ Some (x ∷ others) → n ≤ undecided_reach_of others
unfolding to_read tokens_after_lookahead
advanced-stopped n next after window None l m f x others e = absurd cc
advanced-stopped n next after window (Some to_come) l m f x others e =
    let some = located_tokens-nonempty (ahead window to_come) in
    let is : next ∷ after ∷ some.0 ∷ some.1 ≡ x ∷ others =
    sym
    (ap (λ s. next ∷ cond s [] (after ∷ cond (is_last after.token) [] (located_tokens (ahead window to_come)))) l ∙
    ap (λ s. next ∷ after ∷ cond s [] (located_tokens (ahead window to_come))) m ∙
    ap (λ xs. next ∷ after ∷ xs) some.2)
    ∙ same_Some _ _ e in
    let rest : after ∷ some.0 ∷ some.1 ≡ others = cc in
    subst (λ (xs : List LocatedToken). n ≤ undecided_reach_of xs) rest (f some.0 some.1 (ap Some some.2))

-- Up to where the tokens of a source may be undecided.

open-reach : (rest : List LocatedToken) → undecided_reach_of rest ≤ reach_of rest
open-reach [] = omega arith
open-reach (x ∷ []) = open-end x
open-reach (x ∷ y ∷ rest) = open-end y

first-last : (offset : ℕ) (x : LocatedToken) (others : List LocatedToken) → StaysUndecided offset (x ∷ others) →
    undecided_until x ≤ last_undecided_until (x ∷ others)
first-last offset x [] s = omega arith
first-last offset x (y ∷ others) s = omega (arith, open-end x, s.1.0, first-last x.end y others s.1)

reach-last : (offset : ℕ) (rest : List LocatedToken) → StaysUndecided offset rest →
    undecided_reach_of rest ≤ last_undecided_until rest
reach-last offset [] s = omega arith
reach-last offset (x ∷ []) s = omega arith
reach-last offset (x ∷ y ∷ others) s = first-last x.end y others s.1

last-window_after : (x : LocatedToken) (others : List LocatedToken) →
    last_undecided_until others ≤ last_undecided_until (x ∷ others)
last-window_after x [] = omega arith
last-window_after x (y ∷ others) = omega arith

all-last : (offset : ℕ) (passed rest : List LocatedToken) → StaysUndecided offset (passed ++ rest) →
    undecided_reach_of rest ≤ last_undecided_until (passed ++ rest)
all-last offset [] rest s = reach-last offset rest s
all-last offset (x ∷ passed) rest s =
    omega (arith, last-window_after x (passed ++ rest), all-last x.end passed rest s.1)

-- bytes that leave the second of these tokens undecided end by its end, and leave the source's last token undecided
pub open-within : (rest : List LocatedToken) (n : ℕ) → n ≤ undecided_reach_of rest → n ≤ reach_of rest
open-within rest n h = omega (arith, h, open-reach rest)

pub open-to_last : (bytes : List ℕ) (passed rest : List LocatedToken) (n : ℕ) → tokens bytes ≡ passed ++ rest →
    n ≤ undecided_reach_of rest → n ≤ last_undecided_until (tokens bytes)
open-to_last bytes passed rest n is h =
    subst (λ (xs : List LocatedToken). n ≤ last_undecided_until xs) (sym is)
    (omega (arith, h, all-last 0 passed rest (subst (StaysUndecided 0) is (tokens-open bytes))))
