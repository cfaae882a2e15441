-- Tokens that are at hand as a whole.
use Rattle.std.proofs.Common.{◌≡◌, ℕ, zero, suc, ◌+◌, ◌-◌, ◌<◌, ◌≤◌, Bool, true, false, cond, eqb, Option, Some, None, List, [], ◌∷◌, ◌++◌, length, take, refl, sym, ap, ap₂, ◌∙◌, subst, arith, append-nil}
use Rattle.std.specs.Prelude.{slice_get}
use Rattle.std.specs.List.{count_by, prefix_len}
use Rattle.std.proofs.lemmas.Bool.{cond-false, ne_eqb, le-leb}
use Rattle.std.proofs.lemmas.List.{take-append-le, length-take-le}
use Rattle.std.proofs.lemmas.List.Folds.{prefix_len-append}
use Rattle.std.proofs.lemmas.List.Sums.{sum_by-cons}
use Rattle.tokens.specs.Characters.{is_digit, is_name_byte}
use Rattle.tokens.specs.InputElement.{name_token}
use Rattle.tokens.specs.Tokens.{line_after, ahead_after, located}
use Rattle.tokens.specs.Window.{Window, ahead, window_after, later}
use Rattle.tokens.specs.Lexing.{to_read, followed, token_ending, in_token_span, in_name, name_going_on, in_constant, constant_going_on, value_token, in_punctuator, BeginsName, BeginsConstant, EndsBefore}
use Rattle.tokens.specs.declared.located_tokens.Punctuator.{Punctuator}
use Rattle.tokens.specs.declared.located_tokens.Token.{Token}
use Rattle.tokens.specs.declared.located_tokens.Token.TheVariants as variant
use Rattle.tokens.specs.declared.located_tokens.LocatedToken.{LocatedToken}
use Rattle.tokens.specs.declared.windows.Beyond.{Beyond}
use Rattle.tokens.proofs.WindowLemmas.{held, window_after-is}
use Rattle.tokens.proofs.TokenLemmas.{chosen, no_line, punctuator_element-whole, punctuator_element-ended}

-- a span that ends within the first bytes ends there whatever follows
token_span-within : (test : ℕ → Bool) (xs ys : List ℕ) → prefix_len test xs < length xs →
    prefix_len test (xs ++ ys) ≡ prefix_len test xs
token_span-within test xs ys h =
    prefix_len-append test xs ys ∙
    cond-false _ _ _ (ne_eqb (prefix_len test xs) (length xs) (λ same. omega (arith, same, h)))

-- no line ends within a span
pub no_lines : (test : ℕ → Bool) → test 10 ≡ false → (xs : List ℕ) →
    count_by (λ b. eqb b 10) (take (prefix_len test xs) xs) ≡ 0
no_lines test e [] = refl
no_lines test e (b ∷ xs) = by (test b) refl (no_lines test e xs)
  where
    by : (t : Bool) → test b ≡ t → count_by (λ b. eqb b 10) (take (prefix_len test xs) xs) ≡ 0 →
        count_by (λ b. eqb b 10) (take (cond t (1 + prefix_len test xs) 0) (b ∷ xs)) ≡ 0
    by true h f =
        let k : 1 + prefix_len test xs ≡ suc (prefix_len test xs) = omega arith in
        let step : count_by (λ b. eqb b 10) (b ∷ take (prefix_len test xs) xs) ≡
        cond (eqb b 10) 1 0 + count_by (λ b. eqb b 10) (take (prefix_len test xs) xs) =
        sum_by-cons (λ b. cond (eqb b 10) 1 0) b (take (prefix_len test xs) xs) in
        ap (λ n. count_by (λ b. eqb b 10) (take n (b ∷ xs))) k ∙ step ∙
        ap₂ (λ t n. cond t 1 0 + n) (no_line test b e h) f
    by false h f = refl

-- what lies ahead after some of the bytes at hand
ahead-window_after : (n line offset taken : ℕ) (xs to_come : List ℕ) (beyond : Beyond) → n ≤ length xs →
    ahead (window_after n (held line offset xs taken beyond)) to_come ≡
    ahead_after n (ahead (held line offset xs taken beyond) to_come)
ahead-window_after zero line offset taken xs to_come beyond h = refl
ahead-window_after (suc n) line offset taken [] to_come beyond h = absurd (omega (arith, h))
ahead-window_after (suc n) line offset taken (b ∷ xs) to_come beyond h =
    ahead-window_after n (line_after b line) (offset + 1) taken xs to_come beyond (omega (arith, h))

-- a span that ends at hand is passed at once
pub token_span-at_hand : (test : ℕ → Bool) (token_of : List ℕ → Token) (located_token : LocatedToken)
    (here new : Window)
    (to_come : Option (List ℕ)) → test 10 ≡ false → prefix_len test here.at_hand < length here.at_hand →
    new ≡ window_after (prefix_len test here.at_hand) here →
    located_token ≡
    (record { token = token_of (take (prefix_len test here.at_hand) here.at_hand); line = new.line; end = new.offset })
    → to_read (followed located_token) new to_come ≡ to_read (in_token_span test token_of) here to_come
unfolding to_read in_token_span
token_span-at_hand test token_of located_token here new None n h p x = refl
token_span-at_hand test token_of located_token here new (Some to_come) n h p x =
    let xs = here.at_hand in
    let ys = later here.beyond here.taken to_come in
    let at =
    p ∙ window_after-is here.line here.offset here.taken here.beyond (prefix_len test xs) xs (omega (arith, h)) in
    let line : new.line ≡ here.line =
    ap (λ s. s.line) at ∙ ap (λ k. here.line + k) (no_lines test n xs) ∙ omega arith in
    let offset : new.offset ≡ here.offset + prefix_len test xs = ap (λ s. s.offset) at in
    let run = token_span-within test xs ys h in
    let bytes = take-append-le (prefix_len test xs) xs ys (omega (arith, h)) in
    let same : located (token_of (take (prefix_len test (xs ++ ys)) (xs ++ ys))) (prefix_len test (xs ++ ys))
    (ahead here to_come) ≡ located_token =
    rw (x, run, bytes, line, offset) refl in
    let window_after =
    ap (λ s. ahead s to_come) p ∙
    ahead-window_after (prefix_len test xs) here.line here.offset here.taken xs to_come here.beyond (omega (arith, h)) ∙
    ap (λ k. ahead_after k (ahead here to_come)) (sym run) in
    ap₂ (λ l a. Some (followed l a)) (sym same) window_after

abbrev at : Token → Window → LocatedToken
at token new = record { token = token; line = new.line; end = new.offset }

name-count : (first len : ℕ) (xs name : List ℕ) → len ≡ length name → BeginsName first xs name →
    len - 1 ≡ prefix_len is_name_byte xs
name-count first len xs name l n =
    let whole = length-take-le (prefix_len is_name_byte xs) xs (omega (arith, n.ended)) in
    omega (arith, l, ap length n.is, whole)

-- a name that ends at hand
pub name-in_line : (first len : ℕ) (rest name : List ℕ) (here : Window) → rest ≡ here.at_hand → len ≡ length name →
    BeginsName first rest name → count_by (λ b. eqb b 10) (take (len - 1) here.at_hand) ≡ 0
name-in_line first len rest name here r l n =
    let count = name-count first len here.at_hand name l (subst (λ (xs : List ℕ). BeginsName first xs name) r n) in
    ap (λ k. count_by (λ b. eqb b 10) (take k here.at_hand)) count ∙ no_lines is_name_byte refl here.at_hand

pub name-at_hand : (first len : ℕ) (rest name : List ℕ) (located_token : LocatedToken) (here new : Window)
    (to_come : Option (List ℕ)) → rest ≡ here.at_hand → len ≡ length name → BeginsName first rest name →
    new ≡ window_after (len - 1) here → located_token ≡ at (name_going_on name false []) new →
    to_read (followed located_token) new to_come ≡ to_read (in_name (first ∷ []) false) here to_come
name-at_hand first len rest name located_token here new to_come r l n p x =
    let run = subst (λ (xs : List ℕ). BeginsName first xs name) r n in
    let count = name-count first len here.at_hand name l run in
    token_span-at_hand is_name_byte (name_going_on (first ∷ []) false) located_token here new to_come refl run.ended
    (p ∙ ap (λ k. window_after k here) count) (x ∙ ap (λ bytes. at (name_token bytes) new) (append-nil name ∙ run.is))

-- a constant that ends at hand
pub constant-in_line : (first value count : ℕ) (rest : List ℕ) (here : Window) → rest ≡ here.at_hand →
    BeginsConstant first rest value count → count_by (λ b. eqb b 10) (take count here.at_hand) ≡ 0
constant-in_line first value count rest here r n =
    let run = subst (λ (xs : List ℕ). BeginsConstant first xs value count) r n in
    ap (λ k. count_by (λ b. eqb b 10) (take k here.at_hand)) run.digits ∙ no_lines is_digit refl here.at_hand

pub constant-at_hand : (first value count : ℕ) (rest : List ℕ) (located_token : LocatedToken) (here new : Window)
    (to_come : Option (List ℕ)) → rest ≡ here.at_hand → BeginsConstant first rest value count →
    new ≡ window_after count here →
    located_token ≡ at (variant.Constant value) new →
    to_read (followed located_token) new to_come ≡ to_read (in_constant (first - 48)) here to_come
constant-at_hand first value count rest located_token here new to_come r n p x =
    let run = subst (λ (xs : List ℕ). BeginsConstant first xs value count) r n in
    let fits : value_token value ≡ variant.Constant value = chosen _ _ _ (le-leb value 2147483647 run.fits) in
    let token : variant.Constant value ≡
    constant_going_on (first - 48) (take (prefix_len is_digit here.at_hand) here.at_hand) =
    sym fits ∙ ap value_token run.is ∙ ap (λ k. constant_going_on (first - 48) (take k here.at_hand)) run.digits in
    token_span-at_hand is_digit (constant_going_on (first - 48)) located_token here new to_come refl
    (omega (arith, run.digits, run.ended)) (p ∙ ap (λ k. window_after k here) run.digits) (x ∙ ap (λ t. at t new) token)

-- a punctuator ends before this byte, or before any
pub punctuator_element-ends_before : (punctuator : Punctuator) (located_token : LocatedToken) (here : Window)
    (to_come : Option (List ℕ)) (first : Option ℕ) → first ≡ slice_get here.at_hand 0 → EndsBefore punctuator first →
    ((to_come : List ℕ) → located_token ≡ token_ending (variant.Punctuator punctuator) (ahead here to_come)) →
    to_read (followed located_token) here to_come ≡ to_read (in_punctuator punctuator) here to_come
punctuator_element-ends_before punctuator located_token here to_come None f ends x =
    punctuator_element-whole punctuator located_token here to_come ends x
punctuator_element-ends_before punctuator located_token here to_come (Some b) f ends x =
    punctuator_element-ended punctuator located_token here to_come b f ends x
