-- Where a token begins: its column, and the blanks and comments before it.
use Rattle.std.proofs.Common.{◌≡◌, ℕ, zero, suc, ◌+◌, ◌<◌, ◌≤◌, List, [], ◌∷◌, ◌++◌, refl, sym, ap, ◌∙◌, Bool, true, false, arith, length, take, drop, get_or, length-drop, zero-add}
use Rattle.std.specs.Prelude.{◌-◌, ◌&&◌, ◌==◌, Option, Some, None, min, max, option_map, slice_range, if◌then◌else◌}
use Rattle.std.proofs.Math.Seq.{drop-cons, take-suc}
use Rattle.std.proofs.lemmas.Bool.{eqb-true}
use Rattle.std.proofs.lemmas.List.{drop_all, length-take, take_all}
use Rattle.tokens.specs.Characters.{is_blank, is_digit, is_letter, is_name_byte}
use Rattle.tokens.specs.InputElement.{InputElement, Space, begins_with, comment_element, constant_token, input_element, name_token, punctuator_element, token_span, up_to_close}
use Rattle.tokens.specs.Punctuators.{longest_punctuator}
use Rattle.tokens.specs.declared.located_tokens.LocatedToken.{LocatedToken}
use Rattle.tokens.specs.declared.located_tokens.Punctuator.{Punctuator}
use Rattle.derivations.specs.Columns.{blank_length, blanks, blanks_within, column_after, column_at, column_past, is_of_byte, start_of}

-- Columns.

past_last : (xs : List ℕ) (b c : ℕ) → column_past (xs ++ b ∷ []) c ≡ column_after b (column_past xs c)
past_last [] b c = refl
past_last (x ∷ xs) b c = past_last xs b (column_after x c)

past_both : (xs ys : List ℕ) (c : ℕ) → column_past (xs ++ ys) c ≡ column_past ys (column_past xs c)
past_both [] ys c = refl
past_both (x ∷ xs) ys c = past_both xs ys (column_after x c)

after_by : (ends : Bool) (c : ℕ) →
    min (if ends then 1 else min c 4294967295 + 1) 4294967295 ≡ min (if ends then 1 else c + 1) 4294967295
after_by true c = refl
after_by false c = omega arith

after_most : (b c : ℕ) → min (column_after b (min c 4294967295)) 4294967295 ≡ min (column_after b c) 4294967295
after_most b c = after_by (b == 10) c

-- a column that is no more than the most leads to one that is no more either
past_most : (xs : List ℕ) (c : ℕ) →
    min (column_past xs (min c 4294967295)) 4294967295 ≡ min (column_past xs c) 4294967295
past_most [] c = omega arith
past_most (b ∷ xs) c =
    sym (past_most xs (column_after b (min c 4294967295)))
    ∙ ap (λ (k : ℕ). min (column_past xs k) 4294967295) (after_most b c)
    ∙ past_most xs (column_after b c)

-- one byte more
pub reached_more : (bytes : List ℕ) (i column reached result : ℕ) → i < length bytes →
    reached ≡ min (column_past (take i bytes) column) 4294967295 →
    result ≡ min (column_after (get_or bytes i 0) reached) 4294967295 →
    result ≡ min (column_past (take (i + 1) bytes) column) 4294967295
reached_more bytes i column reached result inside e r =
    let b : ℕ = get_or bytes i 0 in
    let next : suc i ≡ i + 1 = omega arith in
    r ∙ ap (λ (k : ℕ). min (column_after b k) 4294967295) e
    ∙ after_most b (column_past (take i bytes) column)
    ∙ ap (λ (k : ℕ). min k 4294967295) (sym (past_last (take i bytes) b column))
    ∙ ap (λ (l : List ℕ). min (column_past l column) 4294967295) (sym (take-suc bytes i 0 inside))
    ∙ ap (λ (k : ℕ). min (column_past (take k bytes) column) 4294967295) next

pub reached_all : (bytes : List ℕ) (i column reached : ℕ) → length bytes ≤ i →
    reached ≡ min (column_past (take i bytes) column) 4294967295 →
    reached ≡ min (column_past bytes column) 4294967295
reached_all bytes i column reached all e =
    e ∙ ap (λ (l : List ℕ). min (column_past l column) 4294967295) (take_all i bytes all)

none_taken : (n : ℕ) → take {A = ℕ} n [] ≡ []
none_taken zero = refl
none_taken (suc n) = refl

none_dropped : (n : ℕ) → drop {A = ℕ} n [] ≡ []
none_dropped zero = refl
none_dropped (suc n) = refl

take_sum : (xs : List ℕ) (i n : ℕ) → take (i + n) xs ≡ take i xs ++ take n (drop i xs)
take_sum xs zero n = ap (λ (k : ℕ). take k xs) (zero-add n)
take_sum [] (suc i) n = none_taken (suc i + n) ∙ sym (none_taken n)
take_sum (x ∷ xs) (suc i) n =
    let next : suc i + n ≡ suc (i + n) = omega arith in
    ap (λ (k : ℕ). take k (x ∷ xs)) next ∙ ap (λ (l : List ℕ). x ∷ l) (take_sum xs i n)

drop_sum : (xs : List ℕ) (i n : ℕ) → drop n (drop i xs) ≡ drop (i + n) xs
drop_sum xs zero n = ap (λ (k : ℕ). drop k xs) (sym (zero-add n))
drop_sum [] (suc i) n = none_dropped n ∙ sym (none_dropped (suc i + n))
drop_sum (x ∷ xs) (suc i) n =
    let next : suc (i + n) ≡ suc i + n = omega arith in
    drop_sum xs i n ∙ ap (λ (k : ℕ). drop k (x ∷ xs)) next

-- from one offset to another
pub reached_from : (bytes : List ℕ) (from to column result : ℕ) → from ≤ to → column ≡ column_at bytes from →
    result ≡ min (column_past (slice_range bytes from to) column) 4294967295 → result ≡ column_at bytes to
reached_from bytes from to column result h e r =
    let between : List ℕ = slice_range bytes from to in
    let sum : from + (to - from) ≡ to = omega (arith, h) in
    r ∙ ap (λ (k : ℕ). min (column_past between k) 4294967295) e
    ∙ past_most between (column_past (take from bytes) 1)
    ∙ ap (λ (k : ℕ). min k 4294967295) (sym (past_both (take from bytes) between 1))
    ∙ ap (λ (l : List ℕ). min (column_past l 1) 4294967295) (sym (take_sum bytes from (to - from)))
    ∙ ap (λ (k : ℕ). min (column_past (take k bytes) 1) 4294967295) sum

-- Comments.

-- how many bytes close a comment, if a star is before them or none
abbrev pub closed_from : Bool → List ℕ → Option ℕ
closed_from star [] = None
closed_from star (b ∷ rest) = if star && (b == 47) then Some 1 else option_map suc (closed_from (b == 42) rest)

-- with this many before
abbrev pub behind : ℕ → Option ℕ → Option ℕ
behind i o = option_map (λ n. i + n) o

after_star : (rest : List ℕ) → closed_from true rest ≡ (if begins_with 47 rest then Some 1 else closed_from false rest)
after_star [] = refl
after_star (b ∷ rest) = refl

closed_by : (closes : Bool) (a b : Option ℕ) → a ≡ b →
    (if closes then Some 2 else option_map suc a) ≡ option_map suc (if closes then Some 1 else b)
closed_by true a b h = refl
closed_by false a b h = ap (λ (o : Option ℕ). option_map suc o) h

star_by : (star : Bool) (rest : List ℕ) → up_to_close rest ≡ closed_from false rest →
    (if star && begins_with 47 rest then Some 2 else option_map suc (up_to_close rest))
    ≡ option_map suc (closed_from star rest)
star_by false rest h = ap (λ (o : Option ℕ). option_map suc o) h
star_by true rest h =
    closed_by (begins_with 47 rest) (up_to_close rest) (closed_from false rest) h
    ∙ sym (ap (λ (o : Option ℕ). option_map suc o) (after_star rest))

closes_first : (xs : List ℕ) → up_to_close xs ≡ closed_from false xs
closes_first [] = refl
closes_first (b ∷ rest) = star_by (b == 42) rest (closes_first rest)

none_before : (o : Option ℕ) → o ≡ behind 0 o
none_before None = refl
none_before (Some n) = ap (λ (k : ℕ). Some k) (sym (zero-add n))

pub begun : (xs : List ℕ) → up_to_close xs ≡ behind 0 (closed_from false (drop 0 xs))
begun xs = closes_first xs ∙ none_before (closed_from false xs)

one_before : (i : ℕ) (o : Option ℕ) → behind i (option_map suc o) ≡ behind (i + 1) o
one_before i None = refl
one_before i (Some n) = let same : i + suc n ≡ i + 1 + n = omega arith in ap (λ (k : ℕ). Some k) same

-- one byte more, which doesn't close it
pub goes_on : (inside : List ℕ) (i : ℕ) (star star' : Bool) → i < length inside →
    (star && (get_or inside i 0 == 47)) ≡ false → star' ≡ (get_or inside i 0 == 42) →
    up_to_close inside ≡ behind i (closed_from star (drop i inside)) →
    up_to_close inside ≡ behind (i + 1) (closed_from star' (drop (i + 1) inside))
goes_on inside i star star' inner other s e =
    let b : ℕ = get_or inside i 0 in
    let next : suc i ≡ i + 1 = omega arith in
    e ∙ ap (λ (l : List ℕ). behind i (closed_from star l)) (drop-cons inside i 0 inner)
    ∙
    ap (λ (t : Bool). behind i (if t then Some 1 else option_map suc (closed_from (b == 42) (drop (suc i) inside))))
    other
    ∙ one_before i (closed_from (b == 42) (drop (suc i) inside))
    ∙ ap (λ (k : ℕ). behind (i + 1) (closed_from (b == 42) (drop k inside))) next
    ∙ ap (λ (t : Bool). behind (i + 1) (closed_from t (drop (i + 1) inside))) (sym s)

-- one that closes it
pub closed : (inside : List ℕ) (i : ℕ) (star : Bool) → i < length inside →
    (star && (get_or inside i 0 == 47)) ≡ true → up_to_close inside ≡ behind i (closed_from star (drop i inside)) →
    Some (i + 1) ≡ up_to_close inside
closed inside i star inner ends e =
    let b : ℕ = get_or inside i 0 in
    sym (e ∙ ap (λ (l : List ℕ). behind i (closed_from star l)) (drop-cons inside i 0 inner)
    ∙
    ap (λ (t : Bool). behind i (if t then Some 1 else option_map suc (closed_from (b == 42) (drop (suc i) inside))))
    ends)

-- none
pub never_closed : (inside : List ℕ) (i : ℕ) (star : Bool) → length inside ≤ i →
    up_to_close inside ≡ behind i (closed_from star (drop i inside)) → None ≡ up_to_close inside
never_closed inside i star all e =
    sym (e ∙ ap (λ (l : List ℕ). behind i (closed_from star l)) (drop_all i inside all))

-- Blanks.

abbrev element : (blank letter digit comment : Bool) (name constant spaced other : InputElement) → InputElement
element blank letter digit comment name constant spaced other =
    if blank then Space 1
    else (if letter then name
    else (if digit then constant
    else (if comment then spaced
    else other)))

none_of : (letter digit : Bool) (name constant spaced other : InputElement) → blank_length name ≡ 0 →
    blank_length constant ≡ 0 → blank_length other ≡ 0 →
    blank_length (element false letter digit false name constant spaced other) ≡ 0
none_of true digit name constant spaced other n c o = n
none_of false true name constant spaced other n c o = c
none_of false false name constant spaced other n c o = o

none_of_punctuator : (m : Option Punctuator) → blank_length (punctuator_element m) ≡ 0
none_of_punctuator None = refl
none_of_punctuator (Some m) = refl

abbrev element_of : (blank comment : Bool) (b : ℕ) (rest : List ℕ) → InputElement
element_of blank comment b rest =
    element blank (is_letter b) (is_digit b) comment (token_span is_name_byte name_token (b ∷ rest))
    (token_span is_digit constant_token (b ∷ rest)) (comment_element (up_to_close (drop 1 rest)))
    (punctuator_element (longest_punctuator (b ∷ rest)))

no_blank : (b : ℕ) (rest : List ℕ) → is_blank b ≡ false → ((b == 47) && begins_with 42 rest) ≡ false →
    blank_length (input_element (b ∷ rest)) ≡ 0
no_blank b rest h k =
    ap (λ (t : Bool). blank_length (element_of t ((b == 47) && begins_with 42 rest) b rest)) h
    ∙ ap (λ (t : Bool). blank_length (element_of false t b rest)) k
    ∙ none_of (is_letter b) (is_digit b) (token_span is_name_byte name_token (b ∷ rest))
    (token_span is_digit constant_token (b ∷ rest)) (comment_element (up_to_close (drop 1 rest)))
    (punctuator_element (longest_punctuator (b ∷ rest))) refl refl (none_of_punctuator (longest_punctuator (b ∷ rest)))

and_false : (t : Bool) → (t && false) ≡ false
and_false true = refl
and_false false = refl

and_left : (s t : Bool) → (s && t) ≡ true → s ≡ true
and_left true t h = refl
and_left false t h = absurd cc

and_right : (s t : Bool) → (s && t) ≡ true → t ≡ true
and_right true t h = h
and_right false t h = absurd cc

pub nothing_left : (bytes : List ℕ) → length bytes < 1 → 0 ≡ blank_length (input_element bytes)
nothing_left [] h = refl
nothing_left (b ∷ rest) h = absurd (omega (arith, h))

pub one_blank : (bytes : List ℕ) → 0 < length bytes → is_blank (get_or bytes 0 0) ≡ true →
    1 ≡ blank_length (input_element bytes)
one_blank [] some h = absurd (omega (arith, some))
one_blank (b ∷ rest) some h =
    sym (ap (λ (t : Bool). blank_length (element_of t ((b == 47) && begins_with 42 rest) b rest)) h)

-- a byte alone is no comment
pub none_alone : (bytes : List ℕ) → length bytes ≡ 1 → is_blank (get_or bytes 0 0) ≡ false →
    0 ≡ blank_length (input_element bytes)
none_alone [] one h = refl
none_alone (b ∷ []) one h = sym (no_blank b [] h (and_false (b == 47)))
none_alone (b ∷ c ∷ rest) one h = absurd (omega (arith, one))

-- two bytes that begin no comment
pub none_opens : (bytes : List ℕ) → 1 < length bytes → is_blank (get_or bytes 0 0) ≡ false →
    ((get_or bytes 0 0 == 47) && (get_or bytes 1 0 == 42)) ≡ false → 0 ≡ blank_length (input_element bytes)
none_opens [] two h k = refl
none_opens (b ∷ []) two h k = absurd (omega (arith, two))
none_opens (b ∷ c ∷ rest) two h k = sym (no_blank b (c ∷ rest) h k)

comment_is : (b c : ℕ) (inside : List ℕ) → ((b == 47) && (c == 42)) ≡ true →
    blank_length (input_element (b ∷ c ∷ inside)) ≡ blank_length (comment_element (up_to_close inside))
comment_is b c inside k =
    let slash : b ≡ 47 = eqb-true b 47 (and_left (b == 47) (c == 42) k) in
    ap (λ (s : ℕ). blank_length (input_element (s ∷ c ∷ inside))) slash
    ∙ ap (λ (t : Bool). blank_length (element_of false t 47 (c ∷ inside))) (and_right (b == 47) (c == 42) k)

-- two that do
pub comment_of : (bytes : List ℕ) → 1 < length bytes →
    ((get_or bytes 0 0 == 47) && (get_or bytes 1 0 == 42)) ≡ true →
    blank_length (comment_element (up_to_close (drop 2 bytes))) ≡ blank_length (input_element bytes)
comment_of [] two k = absurd (omega (arith, two))
comment_of (b ∷ []) two k = absurd (omega (arith, two))
comment_of (b ∷ c ∷ inside) two k = sym (comment_is b c inside k)

pub comment_closed : (bytes : List ℕ) (count : ℕ) → 1 < length bytes →
    ((get_or bytes 0 0 == 47) && (get_or bytes 1 0 == 42)) ≡ true → Some count ≡ up_to_close (drop 2 bytes) →
    count + 2 ≡ blank_length (input_element bytes)
comment_closed bytes count two k is =
    let sum : count + 2 ≡ suc (suc count) = omega arith in
    sum ∙ ap (λ (o : Option ℕ). blank_length (comment_element o)) is ∙ comment_of bytes two k

pub comment_open : (bytes : List ℕ) → 1 < length bytes →
    ((get_or bytes 0 0 == 47) && (get_or bytes 1 0 == 42)) ≡ true → None ≡ up_to_close (drop 2 bytes) →
    0 ≡ blank_length (input_element bytes)
comment_open bytes two k is = ap (λ (o : Option ℕ). blank_length (comment_element o)) is ∙ comment_of bytes two k

-- Those before a token.

no_more : (n : ℕ) (xs : List ℕ) → blank_length (input_element xs) ≡ 0 → blanks_within n xs ≡ 0
no_more zero xs h = refl
no_more (suc n) xs h =
    ap (λ (k : ℕ). k + blanks_within n (drop k xs)) h ∙ zero-add (blanks_within n xs) ∙ no_more n xs h

-- all that is left from an offset on
pub all_left : (bytes : List ℕ) (n : ℕ) → take (length bytes - n) (drop n bytes) ≡ drop n bytes
all_left bytes n = take_all (length bytes - n) (drop n bytes) (omega (arith, length-drop n bytes))

-- so many bytes of the blanks and comments were counted, as i of them were
abbrev pub IsCounted : List ℕ → (i passed : ℕ) → Type 0
IsCounted bytes i passed = passed + blanks_within (length bytes - i) (drop passed bytes) ≡ blanks bytes

pub none_counted : (bytes : List ℕ) → IsCounted bytes 0 0
none_counted bytes =
    let whole : length bytes - 0 ≡ length bytes = omega arith in
    zero-add (blanks_within (length bytes - 0) bytes) ∙ ap (λ (n : ℕ). blanks_within n bytes) whole

pub counted_more : (bytes : List ℕ) (i passed count : ℕ) → i < length bytes →
    count ≡ blank_length (input_element (drop passed bytes)) → IsCounted bytes i passed →
    IsCounted bytes (i + 1) (passed + count)
counted_more bytes i passed count inside c e =
    let left : ℕ = length bytes - (i + 1) in
    let here : List ℕ = drop passed bytes in
    let next : suc left ≡ length bytes - i = omega (arith, inside) in
    let sum : passed + count + blanks_within left (drop (passed + count) bytes)
    ≡ passed + (count + blanks_within left (drop (passed + count) bytes)) = omega arith in
    sum
    ∙ ap (λ (l : List ℕ). passed + (count + blanks_within left l)) (sym (drop_sum bytes passed count))
    ∙ ap (λ (k : ℕ). passed + (k + blanks_within left (drop k here))) c
    ∙ ap (λ (n : ℕ). passed + blanks_within n here) next
    ∙ e

pub counted_none : (bytes : List ℕ) (i passed count : ℕ) → count ≡ blank_length (input_element (drop passed bytes)) →
    count ≡ 0 → IsCounted bytes i passed → passed ≡ blanks bytes
counted_none bytes i passed count c none e =
    let last : blanks_within (length bytes - i) (drop passed bytes) ≡ 0 =
    no_more (length bytes - i) (drop passed bytes) (sym c ∙ none) in
    let same : passed ≡ passed + blanks_within (length bytes - i) (drop passed bytes) = omega (arith, last) in
    same ∙ e

pub counted_all : (bytes : List ℕ) (i passed : ℕ) → length bytes ≤ i → IsCounted bytes i passed → passed ≡ blanks bytes
counted_all bytes i passed all e =
    let none : length bytes - i ≡ 0 = omega (arith, all) in
    let same : passed ≡ passed + 0 = omega arith in
    same ∙ ap (λ (n : ℕ). passed + blanks_within n (drop passed bytes)) (sym none) ∙ e

few_between : (bytes : List ℕ) (from to n : ℕ) → n ≤ length (slice_range bytes from to) → from + n ≤ max from to
few_between bytes from to n h = omega (arith, h, length-take (to - from) (drop from bytes))

-- where a token begins

begins_by : (bytes : List ℕ) (behind : ℕ) (t : LocatedToken) (b : Bool) → is_of_byte t.token ≡ b →
    (if b then t.end - 1 else behind + blanks (slice_range bytes behind t.end)) ≡ start_of bytes behind t
begins_by bytes behind t b e =
    sym (ap (λ (x : Bool). if x then t.end - 1 else behind + blanks (slice_range bytes behind t.end)) e)

pub begins_at_end : (bytes : List ℕ) (behind : ℕ) (t : LocatedToken) (result : ℕ) → is_of_byte t.token ≡ true →
    result ≡ t.end - 1 → result ≡ start_of bytes behind t
begins_at_end bytes behind t result e r = r ∙ begins_by bytes behind t true e

pub begins_behind : (bytes : List ℕ) (behind : ℕ) (t : LocatedToken) (count result : ℕ) → is_of_byte t.token ≡ false →
    count ≡ blanks (slice_range bytes behind t.end) → count ≤ length (slice_range bytes behind t.end) →
    max behind t.end ≤ 18446744073709551615 → result ≡ min (behind + count) 18446744073709551615 →
    result ≡ start_of bytes behind t
begins_behind bytes behind t count result e is few fits r =
    let whole : result ≡ behind + count = omega (arith, few_between bytes behind t.end count few, fits, r) in
    whole ∙ ap (λ (n : ℕ). behind + n) is ∙ begins_by bytes behind t false e
