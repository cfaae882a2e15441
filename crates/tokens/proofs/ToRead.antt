-- What is still to be read, as a window goes on.
use Rattle.std.proofs.Common.{◌≡◌, ℕ, true, false, cond, eqb, Option, Some, None, List, [], ◌∷◌, ◌++◌, refl, sym, ap, ◌∙◌, ◌≢◌}
use Rattle.std.specs.Prelude.{slice_get}
use Rattle.std.specs.Option.{option_eq}
use Rattle.std.proofs.lemmas.Bool.{eqb-true}
use Rattle.tokens.specs.InputElement.{begins_with}
use Rattle.tokens.specs.Tokens.{UnreadSource, ahead_after_byte}
use Rattle.tokens.specs.Window.{Window, seen, ahead, window_after_byte, later, IsAtHandOrEnd}
use Rattle.tokens.specs.Lexing.{to_read}
use Rattle.tokens.specs.declared.located_tokens.LocatedToken.{LocatedToken}
use Rattle.tokens.specs.declared.windows.Beyond.{Beyond}
use Rattle.tokens.specs.declared.windows.Beyond.TheVariants.{Unread, Nothing, TooMuch}

-- the same is seen, so the same is to be read
pub to_read-seen : (made : UnreadSource → List LocatedToken) (new old : Window) (to_come' to_come : Option (List ℕ)) →
    seen new to_come' ≡ seen old to_come → to_read made new to_come' ≡ to_read made old to_come
unfolding to_read
to_read-seen made new old to_come' to_come e = ap (Rattle.std.specs.Option.option_map made) e

-- if the window stays
pub to_read-here : (made made' : UnreadSource → List LocatedToken) (here : Window) (to_come : Option (List ℕ)) →
    ((to_come : List ℕ) → made (ahead here to_come) ≡ made' (ahead here to_come)) →
    to_read made here to_come ≡ to_read made' here to_come
unfolding to_read
to_read-here made made' here None f = refl
to_read-here made made' here (Some to_come) f = ap Some (f to_come)

-- what begins the bytes at hand begins those ahead
pub first-ahead : (here : Window) (b : ℕ) (to_come : List ℕ) → slice_get here.at_hand 0 ≡ Some b →
    (rest : List ℕ) × ((ahead here to_come).bytes ≡ b ∷ rest)
first-ahead here b to_come e = by here.at_hand e
  where
    by : (xs : List ℕ) → slice_get xs 0 ≡ Some b →
        (rest : List ℕ) × (xs ++ later here.beyond here.taken to_come ≡ b ∷ rest)
    by [] e = absurd cc
    by (x ∷ xs) e =
        let d : x ≡ b = cc in
        (xs ++ later here.beyond here.taken to_come, ap (λ y. y ∷ (xs ++ later here.beyond here.taken to_come)) d)

-- at the end nothing is ahead
pub none-ahead : (here : Window) (to_come : List ℕ) → IsAtHandOrEnd here → slice_get here.at_hand 0 ≡ None →
    (ahead here to_come).bytes ≡ []
none-ahead here to_come h e = by here.at_hand here.beyond h e
  where
    by : (xs : List ℕ) (beyond : Beyond) → (xs ≡ [] → beyond ≢ Unread) → slice_get xs 0 ≡ None →
        xs ++ later beyond here.taken to_come ≡ []
    by [] Unread h e = absurd (h refl refl)
    by [] Nothing h e = refl
    by [] TooMuch h e = refl
    by (x ∷ xs) beyond h e = absurd cc

-- where another byte is next, or none, all is read that this one would decide
pub to_read-unless : (c : ℕ) (made made' : UnreadSource → List LocatedToken) (here : Window)
    (to_come : Option (List ℕ)) (first : Option ℕ) → IsAtHandOrEnd here → first ≡ slice_get here.at_hand 0 →
    option_eq eqb first (Some c) ≡ false →
    to_read made' here to_come ≡ to_read (λ a. cond (begins_with c a.bytes) (made a) (made' a)) here to_come
to_read-unless c made made' here to_come first ready f e =
    to_read-here made' (λ a. cond (begins_with c a.bytes) (made a) (made' a)) here to_come (λ to_come.
    sym (ap (λ s. cond s (made (ahead here to_come)) (made' (ahead here to_come))) (by first f e to_come)))
  where
    by : (o : Option ℕ) → o ≡ slice_get here.at_hand 0 → option_eq eqb o (Some c) ≡ false → (to_come : List ℕ) →
        begins_with c (ahead here to_come).bytes ≡ false
    by None f e to_come = ap (begins_with c) (none-ahead here to_come ready (sym f))
    by (Some b) f e to_come = let r = first-ahead here b to_come (sym f) in ap (begins_with c) r.1 ∙ e

pub byte-found : (c : ℕ) (first : Option ℕ) → option_eq eqb first (Some c) ≡ true → first ≡ Some c
byte-found c None e = absurd cc
byte-found c (Some b) e = ap Some (eqb-true b c e)

-- a byte is at hand
pub is-at_hand : (here : Window) (b : ℕ) → Some b ≡ slice_get here.at_hand 0 → IsAtHandOrEnd here
is-at_hand here b f e = by here.at_hand f e
  where
    by : (xs : List ℕ) → Some b ≡ slice_get xs 0 → xs ≡ [] → here.beyond ≢ Unread
    by [] f e = absurd cc
    by (x ∷ xs) f e = absurd cc

-- one byte further on
pub ahead-window_after_byte : (here : Window) (b : ℕ) (to_come : List ℕ) → slice_get here.at_hand 0 ≡ Some b →
    ahead (window_after_byte here) to_come ≡ ahead_after_byte (ahead here to_come)
ahead-window_after_byte here b to_come e = by here.at_hand e
  where
    by : (xs : List ℕ) → slice_get xs 0 ≡ Some b →
        ahead (window_after_byte (record here { at_hand = xs })) to_come ≡
        ahead_after_byte (ahead (record here { at_hand = xs }) to_come)
    by [] e = absurd cc
    by (x ∷ xs) e = refl

to_read-step : (made made' : UnreadSource → List LocatedToken) (here : Window) (to_come : Option (List ℕ)) (b : ℕ) →
    slice_get here.at_hand 0 ≡ Some b →
    ((a : UnreadSource) (rest : List ℕ) → a.bytes ≡ b ∷ rest → made (ahead_after_byte a) ≡ made' a) →
    to_read made (window_after_byte here) to_come ≡ to_read made' here to_come
unfolding to_read
to_read-step made made' here None b e f = refl
to_read-step made made' here (Some to_come) b e f =
    let r = first-ahead here b to_come e in
    ap (λ a. Some (made a)) (ahead-window_after_byte here b to_come e) ∙ ap Some (f (ahead here to_come) r.0 r.1)

pub to_read-pass : (made made' : UnreadSource → List LocatedToken) (new here : Window) (to_come : Option (List ℕ))
    (first : Option ℕ) (b : ℕ) → new ≡ window_after_byte here → first ≡ slice_get here.at_hand 0 → first ≡ Some b →
    ((a : UnreadSource) (rest : List ℕ) → a.bytes ≡ b ∷ rest → made (ahead_after_byte a) ≡ made' a) →
    to_read made new to_come ≡ to_read made' here to_come
to_read-pass made made' new here to_come first b n o e f =
    ap (λ h. to_read made h to_come) n ∙ to_read-step made made' here to_come b (sym o ∙ e) f

-- the same, by the line
pub to_read-pass_line : (made made' : UnreadSource → List LocatedToken) (new here : Window) (to_come : Option (List ℕ))
    (b line : ℕ)
    → new ≡ window_after_byte here → slice_get here.at_hand 0 ≡ Some b → line ≡ here.line →
    ((a : UnreadSource) (rest : List ℕ) → a.bytes ≡ b ∷ rest → a.line ≡ line → made (ahead_after_byte a) ≡ made' a) →
    to_read made new to_come ≡ to_read made' here to_come
unfolding to_read
to_read-pass_line made made' new here None b line n e l f = refl
to_read-pass_line made made' new here (Some to_come) b line n e l f =
    let r = first-ahead here b to_come e in
    ap (λ h. Some (made (ahead h to_come))) n ∙
    (ap (λ a. Some (made a)) (ahead-window_after_byte here b to_come e) ∙
    ap Some (f (ahead here to_come) r.0 r.1 (sym l)))
