-- What a window shows after it was filled, and after some of the bytes at hand.
use Rattle.std.proofs.Common.{◌≡◌, ℕ, zero, suc, ◌+◌, ◌-◌, ◌<◌, ◌≤◌, Bool, true, false, cond, eqb, ltb, Option, Some, None, List, [], ◌∷◌, ◌++◌, length, take, drop, refl, sym, ap, ◌∙◌, subst, arith, append-nil, length-append}
use Rattle.std.proofs.lemmas.Bool.{lt-ltb, le-ltb}
use Rattle.std.proofs.lemmas.Bool.Decides.{nat_tests}
use Rattle.std.proofs.lemmas.List.{take-append-le, take-append-drop, drop-drop, take-take, take_all, drop_all, length-take-le}
use Rattle.std.proofs.lemmas.List.Edits.{length-between}
use Rattle.std.proofs.lemmas.List.Sums.{sum_by-cons, prefix_len-le-length}
use Rattle.std.proofs.lemmas.Slice.{between_is, between_from_start}
use Rattle.std.proofs.Math.Seq.{take-append-add}
use Rattle.std.specs.List.{count_by, between, prefix_len}
use Rattle.tokens.specs.Feed.{Gives}
use Rattle.tokens.specs.Source.{source}
use Rattle.tokens.specs.Tokens.{line_after}
use Rattle.tokens.specs.Window.{Window, seen, window_after, later, goes_on, Splits}
use Rattle.tokens.specs.declared.windows.Beyond.{Beyond}
use Rattle.tokens.specs.declared.windows.Beyond.TheVariants.{Unread, Nothing, TooMuch}
use Rattle.tokens.proofs.SourceLemmas.{source-append, source-ended, take-source, length-source-le}

abbrev pub held : ℕ → ℕ → List ℕ → ℕ → Beyond → Window
held line offset at_hand taken beyond =
    record { line = line; offset = offset; at_hand = at_hand; taken = taken; beyond = beyond }

-- the lines after a byte and some more
lines-cons : (line b : ℕ) (xs : List ℕ) →
    line_after b line + count_by (λ b. eqb b 10) xs ≡ line + count_by (λ b. eqb b 10) (b ∷ xs)
lines-cons line b xs =
    let e : count_by (λ b. eqb b 10) (b ∷ xs) ≡ cond (eqb b 10) 1 0 + count_by (λ b. eqb b 10) xs =
    sum_by-cons (λ b. cond (eqb b 10) 1 0) b xs in
    rw e (by (eqb b 10))
  where
    by : (t : Bool) →
        cond t (line + 1) line + count_by (λ b. eqb b 10) xs ≡ line + (cond t 1 0 + count_by (λ b. eqb b 10) xs)
    by true = omega arith
    by false = omega arith

-- this many bytes further on: the lines among them are counted
pub window_after-is : (line offset taken : ℕ) (beyond : Beyond) (n : ℕ) (xs : List ℕ) → n ≤ length xs →
    window_after n (held line offset xs taken beyond) ≡
    held (line + count_by (λ b. eqb b 10) (take n xs)) (offset + n) (drop n xs) taken beyond
window_after-is line offset taken beyond zero xs h =
    let e : line + 0 ≡ line = omega arith in let f : offset + 0 ≡ offset = omega arith in cc
window_after-is line offset taken beyond (suc n) [] h = absurd (omega (arith, h))
window_after-is line offset taken beyond (suc n) (b ∷ xs) h =
    let e = lines-cons line b (take n xs) in
    let f : offset + 1 + n ≡ offset + suc n = omega arith in
    window_after-is (line_after b line) (offset + 1) taken beyond n xs (omega (arith, h)) ∙ cc

-- the bytes at hand, this many further on
pub between-further : (xs : List ℕ) (i n j : ℕ) → between (i + n) j xs ≡ drop n (between i j xs)
between-further xs i n j = rw (between_is, between_is, drop-drop) refl

-- after a span of the bytes at hand
pub token_span-ahead_after : (q : ℕ → Bool) (line start taken next filled count lines : ℕ) (beyond : Beyond)
    (bytes : List ℕ) →
    count ≡ prefix_len q (between next filled bytes) →
    lines ≡ count_by (λ b. eqb b 10) (take count (between next filled bytes))
    →
    held (line + lines) (start + (next + count)) (between (next + count) filled bytes) taken beyond ≡
    window_after (prefix_len q (between next filled bytes))
    (held line (start + next) (between next filled bytes) taken beyond)
token_span-ahead_after q line start taken next filled count lines beyond bytes e f =
    let at_hand = between next filled bytes in
    let within : count ≤ length at_hand = rw e (prefix_len-le-length q at_hand) in
    let b = window_after-is line (start + next) taken beyond count at_hand within in
    let d = between-further bytes next count filled in
    let p : start + (next + count) ≡ start + next + count = omega arith in
    rw (← e) (rw b (rw (d, p, f) refl))

-- after bytes at hand of which none ends a line
pub in_line : (line start taken next filled count : ℕ) (beyond : Beyond) (bytes : List ℕ) →
    count ≤ length (between next filled bytes) → count_by (λ b. eqb b 10) (take count (between next filled bytes)) ≡ 0
    →
    held line (start + (next + count)) (between (next + count) filled bytes) taken beyond ≡
    window_after count (held line (start + next) (between next filled bytes) taken beyond)
in_line line start taken next filled count beyond bytes h z =
    let b = window_after-is line (start + next) taken beyond count (between next filled bytes) h in
    let d = between-further bytes next count filled in
    let p : start + (next + count) ≡ start + next + count = omega arith in
    let l : line + 0 ≡ line = omega arith in
    rw b (rw (d, p, z, l) refl)

ltb-same : (a b c d : ℕ) → (a < b → c < d) → (c < d → a < b) → ltb a b ≡ ltb c d
ltb-same a b c d f g = grind (arith, nat_tests)

-- a portion of the bytes to come was put at hand: what lies ahead is the same
pub record IsSame (buffer to_come rest : List ℕ) (taken n kept : ℕ) (beyond : Beyond) : Type 0 where
  pub bytes : take kept buffer ++ later beyond (taken + n) rest ≡ later Unread taken to_come
  pub over : goes_on beyond (taken + n) rest ≡ goes_on Unread taken to_come

pub filled-same : (beyond : Beyond) (buffer front rest : List ℕ) (taken n kept : ℕ) →
    Splits front (1048576 - taken) kept beyond → take n buffer ≡ front → length front ≡ n → (n ≡ 0 → rest ≡ []) →
    IsSame buffer (front ++ rest) rest taken n kept beyond
filled-same Unread buffer front rest taken n kept h e l z =
    let whole = source-append front rest (omega (arith, ap length h.0)) in
    let len : length (source (front ++ rest)) ≡ n + length (source rest) =
    ap length whole ∙ (length-append front (source rest) ∙ ap (λ k. k + length (source rest)) l) in
    let room : 1048576 - taken ≡ length front + (1048576 - (taken + n)) = omega (arith, l, h.2, h.3) in
    let kept_is : kept ≡ n = h.1 ∙ l in
    record {
      bytes = rw (whole, room, take-append-add front (source rest) (1048576 - (taken + n)), kept_is, e) refl;
      over = ltb-same _ _ _ _ (λ t. omega (arith, len, h.2, h.3, l)) (λ t. omega (arith, len, h.2, h.3, l));
    }
filled-same TooMuch buffer front rest taken n kept h e l z =
    let whole = source-append front rest (omega (arith, ap length h.0)) in
    let len : length (source (front ++ rest)) ≡ n + length (source rest) =
    ap length whole ∙ (length-append front (source rest) ∙ ap (λ k. k + length (source rest)) l) in
    record {
      bytes =
          append-nil _ ∙ (ap (λ k. take k buffer) h.1 ∙
          sym (take-take (1048576 - taken) n buffer (omega (arith, h.2, l))) ∙ ap (λ xs. take (1048576 - taken) xs) e
          ∙ sym (take-append-le (1048576 - taken) front (source rest) (omega (arith, h.2))) ∙
          ap (λ xs. take (1048576 - taken) xs) (sym whole));
      over = sym (lt-ltb _ _ (omega (arith, len, h.2, l)));
    }
filled-same Nothing buffer front rest taken n kept h e l z =
    let same : source (front ++ rest) ≡ source front = ended n l z in
    record {
      bytes =
          append-nil _ ∙ (sym (take-take kept n buffer (omega (arith, h.0, l, length-source-le front))) ∙
          ap (λ xs. take kept xs) e ∙ ap (λ k. take k front) h.0
          ∙ take-source front ∙ sym (take_all (1048576 - taken) (source front) h.1) ∙
          ap (λ xs. take (1048576 - taken) xs) (sym same));
      over = sym (le-ltb _ _ (omega (arith, ap length same, h.1)));
    }
  where
    ended : (m : ℕ) → length front ≡ m → (m ≡ 0 → rest ≡ []) → source (front ++ rest) ≡ source front
    ended zero l z = rw (z refl, append-nil) refl
    ended (suc m) l z = source-ended front rest (h.2 (omega (arith, l)))

-- an empty window was filled
pub refilled : (before after : Option (List ℕ)) (beyond : Beyond) (at_hand buffer bytes : List ℕ)
    (line offset new_offset taken n kept : ℕ) → at_hand ≡ [] → new_offset ≡ offset →
    Splits (take n bytes) (1048576 - taken) kept beyond → take n bytes ≡ take n buffer → Gives before after buffer n →
    seen (held line new_offset (between 0 kept bytes) (taken + n) beyond) after ≡
    seen (held line offset at_hand taken Unread) before
refilled None after beyond at_hand buffer bytes line offset new_offset taken n kept e p h f w = rw w refl
refilled (Some to_come) after beyond at_hand buffer bytes line offset new_offset taken n kept e p h f w =
    let d = take-append-drop n to_come in
    let l = length-take-le n to_come w.within in
    let same : IsSame bytes to_come (drop n to_come) taken n kept beyond =
    subst (λ (t : List ℕ). IsSame bytes t (drop n to_come) taken n kept beyond) d
    (filled-same beyond bytes (take n to_come) (drop n to_come) taken n kept (rw (← w.front, ← f) h) (f ∙ w.front) l
    (λ z. rw (w.ends z) (drop_all n [] (omega arith)))) in
    rw (w.rest, e, p, between_from_start, same.bytes, same.over) refl

-- nothing is at hand in an empty range
pub empty-range : (bytes : List ℕ) (next filled : ℕ) → filled ≤ length bytes → next ≤ filled →
    between next filled bytes ≡ [] → filled ≡ next
empty-range bytes next filled h o e = omega (arith, length-between bytes next filled h, ap length e)
