-- Spans of bytes: what the bits of a vector say of it, and one vector after another.
use Rattle.std.proofs.Common.{◌≡◌, ℕ, suc, ◌+◌, ◌*◌, ◌-◌, ◌/◌, ◌%◌, ◌^◌, ◌<◌, ◌≤◌, Bool, true, false, not, ◌||◌, ◌&&◌, cond, eqb, List, [], ◌∷◌, ◌++◌, map, length, take, drop, Fits, w8, refl, sym, ap, ap₂, ◌∙◌, arith}
use Rattle.std.specs.List.{prefix_len, count_by, slice_range}
use Rattle.std.specs.Int.RustNames.{bit_and, count_ones}
use Rattle.std.specs.Int.Count.{ones_step}
use Rattle.std.proofs.lemmas.Bool.{agree_below, agree_below_at, eqb-true, eq-eqb, ne_eqb, cond-true, cond-false}
use Rattle.std.proofs.lemmas.List.{length-map, length-take-le, take-append-drop, take-take, take_all, take_rest}
use Rattle.std.proofs.lemmas.List.Folds.{prefix_len-append}
use Rattle.std.proofs.lemmas.List.Sums.{sum_by-append, sum_by-cons}
use Rattle.std.proofs.lemmas.Nat.{and_block}
use Rattle.std.proofs.Math.Bool.{and-true}
use Rattle.std.proofs.lemmas.Simd.{map-map, mask_l-mod, ones-mask_l, length-chunk, chunk-drop}
use Rattle.std.proofs.Math.Seq.{take-append-add}
use lib.Lanes.{Each1, chunk, mask_l, top}
use Rattle.tokens.specs.Source.{source}

map-agree : (f g : ℕ → Bool) (v : List ℕ) → Each1 (Fits w8) v → agree_below f g 256 ≡ true → map f v ≡ map g v
map-agree f g [] fits all = refl
map-agree f g (x ∷ xs) fits all =
    ap₂ (λ t ts. t ∷ ts) (agree_below_at f g 256 x all fits.0.fits) (map-agree f g xs fits.1 all)

-- the bits of a vector whose lanes were computed from its bytes
pub bits_are : (test : ℕ → Bool) (f : ℕ → ℕ) (v : List ℕ) {z : List ℕ} → length v ≡ 32 → Each1 (Fits w8) v →
    z ≡ map f v → agree_below (λ x. top 7 (f x)) test 256 ≡ true
    → mask_l (map (top 7) z) % 2 ^ 64 ≡ mask_l (map test v)
bits_are test f v long fits lanes all =
    let tested = ap (map (top 7)) lanes ∙ map-map (top 7) f v ∙ map-agree (λ x. top 7 (f x)) test v fits all in
    ap (λ ms. mask_l ms % 2 ^ 64) tested ∙ mask_l-mod (map test v) 64 (omega (arith, length-map v test, long))

-- how many bytes of a vector pass a test, by its bits
pub ones_whole : (test : ℕ → Bool) (v : List ℕ) {m : ℕ} → length v ≡ 32 → m ≡ mask_l (map test v) →
    count_ones m ≡ count_by test (take 32 v)
ones_whole test v long e =
    ap count_ones e ∙ ones-mask_l test v ∙ ap (count_by test) (sym (take_all 32 v (omega (arith, long))))

low_block : (x y m n : ℕ) → x < 2 → y < 2 → bit_and (x + 2 * m) (y + 2 * n) ≡ bit_and x y + 2 * bit_and m n
low_block x y m n hx hy =
    let e : x + 2 * m ≡ m * 2 + x = omega arith in
    let f : y + 2 * n ≡ n * 2 + y = omega arith in rw (e, f) (and_block 1 m n x y hx hy ∙ omega arith)

-- the lowest bits of two numbers, and the others
low_apart : (c d : Bool) (m n : ℕ) →
    bit_and (cond c 1 0 + 2 * m) (cond d 1 0 + 2 * n) ≡ cond (c && d) 1 0 + 2 * bit_and m n
low_apart true true m n = low_block 1 1 m n (omega arith) (omega arith)
low_apart true false m n = low_block 1 0 m n (omega arith) (omega arith)
low_apart false true m n = low_block 0 1 m n (omega arith) (omega arith)
low_apart false false m n = low_block 0 0 m n (omega arith) (omega arith)

-- two tests of which no byte passes both share no bit
apart : (p q : ℕ → Bool) → ((b : ℕ) → (p b && q b) ≡ false) → (xs : List ℕ) →
    bit_and (mask_l (map p xs)) (mask_l (map q xs)) ≡ 0
apart p q none [] = refl
apart p q none (x ∷ xs) =
    low_apart (p x) (q x) (mask_l (map p xs)) (mask_l (map q xs))
    ∙ ap₂ (λ t n. cond t 1 0 + 2 * n) (none x) (apart p q none xs)

ones_apart : (c : Bool) (n : ℕ) → count_ones (cond c 1 0 + 2 * n) ≡ cond c 1 0 + count_ones n
ones_apart true n =
    let e : (1 + 2 * n) % 2 ≡ 1 = omega arith in
    let f : (1 + 2 * n) / 2 ≡ n = omega arith in ones_step (1 + 2 * n) ∙ ap₂ (λ a b. a + count_ones b) e f
ones_apart false n =
    let e : (0 + 2 * n) % 2 ≡ 0 = omega arith in
    let f : (0 + 2 * n) / 2 ≡ n = omega arith in ones_step (0 + 2 * n) ∙ ap₂ (λ a b. a + count_ones b) e f

-- How many bytes pass a test before the first that passes another: no byte passes both, so the bits above the first
-- count nothing.
pub ones_before : (p q : ℕ → Bool) → ((b : ℕ) → (p b && q b) ≡ false) → (xs : List ℕ) → 0 < mask_l (map q xs)
    →
    count_ones (bit_and (mask_l (map p xs)) (mask_l (map q xs) - 1)) ≡
    count_by p (take (prefix_len (λ b. not (q b)) xs) xs)
ones_before p q none [] some = absurd (omega (arith, some))
ones_before p q none (x ∷ xs) some = by (p x) (q x) (none x) some (ones_before p q none xs) ∙ of_cons (q x)
  where
    of_cons : (d : Bool) → cond d 0 (cond (p x) 1 0 + count_by p (take (prefix_len (λ b. not (q b)) xs) xs))
        ≡ count_by p (take (cond (not d) (1 + prefix_len (λ b. not (q b)) xs) 0) (x ∷ xs))
    of_cons true = refl
    of_cons false =
        let r = prefix_len (λ b. not (q b)) xs in
        let e : suc r ≡ 1 + r = omega arith in
        sym (sum_by-cons (λ b. cond (p b) 1 0) x (take r xs)) ∙ ap (λ n. count_by p (take n (x ∷ xs))) e

    by : (c d : Bool) → (c && d) ≡ false → 0 < cond d 1 0 + 2 * mask_l (map q xs)
        →
        (0 < mask_l (map q xs) →
        count_ones (bit_and (mask_l (map p xs)) (mask_l (map q xs) - 1)) ≡
        count_by p (take (prefix_len (λ b. not (q b)) xs) xs))
        → count_ones (bit_and (cond c 1 0 + 2 * mask_l (map p xs)) (cond d 1 0 + 2 * mask_l (map q xs) - 1))
        ≡ cond d 0 (cond c 1 0 + count_by p (take (prefix_len (λ b. not (q b)) xs) xs))
    by true true never some rest = absurd cc
    by c false one some rest =
        let e : 0 + 2 * mask_l (map q xs) - 1 ≡ 1 + 2 * (mask_l (map q xs) - 1) = omega (arith, some) in
        ap (λ n. count_ones (bit_and (cond c 1 0 + 2 * mask_l (map p xs)) n)) e
        ∙ ap count_ones (low_apart c true (mask_l (map p xs)) (mask_l (map q xs) - 1))
        ∙ ap (λ t. count_ones (cond t 1 0 + 2 * bit_and (mask_l (map p xs)) (mask_l (map q xs) - 1))) (and-true c)
        ∙ ones_apart c (bit_and (mask_l (map p xs)) (mask_l (map q xs) - 1))
        ∙ ap (λ n. cond c 1 0 + n) (rest (omega (arith, some)))
    by false true one some rest =
        let e : 1 + 2 * mask_l (map q xs) - 1 ≡ 0 + 2 * mask_l (map q xs) = omega arith in
        let none_set : count_ones 0 ≡ 0 = ones-mask_l p [] in
        ap (λ n. count_ones (bit_and (0 + 2 * mask_l (map p xs)) n)) e
        ∙ ap count_ones (low_apart false false (mask_l (map p xs)) (mask_l (map q xs)))
        ∙ ones_apart false (bit_and (mask_l (map p xs)) (mask_l (map q xs)))
        ∙ ap (λ n. 0 + count_ones n) (apart p q none xs) ∙ ap (λ n. 0 + n) none_set

-- no byte ends a line and passes a test that a line's end does not
pub in_line : (q : ℕ → Bool) → q 10 ≡ false → (b : ℕ) → (eqb b 10 && q b) ≡ false
in_line q e b = by (eqb b 10) refl
  where
    by : (t : Bool) → eqb b 10 ≡ t → (t && q b) ≡ false
    by true is = ap q (eqb-true b 10 is) ∙ e
    by false is = refl

-- no bit is set
pub none_set : (m : ℕ) → not (eqb m 0) ≡ false → m ≡ 0
none_set m e = eqb-true m 0 (by (eqb m 0) e)
  where
    by : (t : Bool) → not t ≡ false → t ≡ true
    by true e = refl
    by false e = absurd cc

pub neither : (a b : Bool) → (a || b) ≡ false → (a ≡ false) × (b ≡ false)
neither true b e = absurd cc
neither false b e = (refl, e)

-- a vector with no stop is passed, and the span goes on after it
pub block_passed : (q : ℕ → Bool) (xs : List ℕ) (i n r : ℕ) → i + n ≤ length xs → r ≡ prefix_len q (chunk i n xs) →
    r ≡ n → prefix_len q (drop i xs) ≡ n + prefix_len q (drop (i + n) xs)
block_passed q xs i n r room e whole =
    let long = length-chunk i n xs room in
    ap (prefix_len q) (chunk-drop i n xs) ∙ prefix_len-append q (chunk i n xs) (drop (i + n) xs)
    ∙ cond-true _ _ _ (eq-eqb _ _ (sym e ∙ whole ∙ sym long)) ∙ ap (λ k. k + prefix_len q (drop (i + n) xs)) long

-- the span ends within a vector
pub block_stops : (q : ℕ → Bool) (xs : List ℕ) (i r : ℕ) → i + 32 ≤ length xs → r ≡ prefix_len q (chunk i 32 xs) →
    r < 32 → prefix_len q (drop i xs) ≡ r
block_stops q xs i r room e short =
    let long = length-chunk i 32 xs room in
    ap (prefix_len q) (chunk-drop i 32 xs) ∙ prefix_len-append q (chunk i 32 xs) (drop (i + 32) xs)
    ∙
    cond-false _ _ _
    (ne_eqb (prefix_len q (chunk i 32 xs)) (length (chunk i 32 xs)) (λ same. omega (arith, same, long, e, short)))
    ∙ sym e

-- the bytes of two segments, one after the other
pub counts_more : (test : ℕ → Bool) (xs : List ℕ) (n m : ℕ) → n ≤ length xs →
    count_by test (take (n + m) xs) ≡ count_by test (take n xs) + count_by test (take m (drop n xs))
counts_more test xs n m h =
    let d = take-append-drop n xs in
    let l = length-take-le n xs h in
    let t : take (n + m) xs ≡ take n xs ++ take m (drop n xs) =
    ap (take (n + m)) (sym d) ∙
    (ap (λ k. take (k + m) (take n xs ++ drop n xs)) (sym l) ∙ take-append-add (take n xs) (drop n xs) m) in
    ap (count_by test) t ∙ sum_by-append (λ b. cond (test b) 1 0) (take n xs) (take m (drop n xs))

-- a vector's, after those before it
pub counts_block : (test : ℕ → Bool) (xs : List ℕ) (i r a b : ℕ) → i ≤ length xs → r ≤ 32 →
    a ≡ count_by test (take i xs) → b ≡ count_by test (take r (chunk i 32 xs)) → a + b ≡ count_by test (take (i + r) xs)
counts_block test xs i r a b h few e f =
    ap₂ (λ x y. x + y) e (f ∙ ap (count_by test) (take-take r 32 (drop i xs) few)) ∙ sym (counts_more test xs i r h)

-- those of the bytes after the vectors
pub counts_rest : (test : ℕ → Bool) (xs : List ℕ) (i r a b : ℕ) → i ≤ length xs → a ≡ count_by test (take i xs) →
    b ≡ count_by test (take r (slice_range xs i (length xs))) → a + b ≡ count_by test (take (i + r) xs)
counts_rest test xs i r a b h e f =
    ap₂ (λ x y. x + y) e (f ∙ ap (λ ys. count_by test (take r ys)) (take_rest xs i)) ∙ sym (counts_more test xs i r h)

pub rest_of_run : (q : ℕ → Bool) (xs : List ℕ) (i r : ℕ) → prefix_len q xs ≡ i + prefix_len q (drop i xs) →
    r ≡ prefix_len q (slice_range xs i (length xs)) → i + r ≡ prefix_len q xs
rest_of_run q xs i r e f = ap (λ k. i + k) (f ∙ ap (prefix_len q) (take_rest xs i)) ∙ sym e

-- a test that was turned twice
pub turned_twice : (p : ℕ → Bool) (xs : List ℕ) → prefix_len (λ b. not (not (p b))) xs ≡ prefix_len p xs
turned_twice p [] = refl
turned_twice p (x ∷ xs) = by (p x) (turned_twice p xs)
  where
    by : (t : Bool) → prefix_len (λ b. not (not (p b))) xs ≡ prefix_len p xs →
        cond (not (not t)) (1 + prefix_len (λ b. not (not (p b))) xs) 0 ≡ cond t (1 + prefix_len p xs) 0
    by true e = ap (λ n. 1 + n) e
    by false e = refl

pub source-is_run : (xs : List ℕ) → length (source xs) ≡ prefix_len (λ b. not (eqb b 26)) xs
source-is_run [] = refl
source-is_run (b ∷ xs) = by (eqb b 26) (source-is_run xs)
  where
    by : (t : Bool) → length (source xs) ≡ prefix_len (λ b. not (eqb b 26)) xs →
        length (cond t [] (b ∷ source xs)) ≡ cond (not t) (1 + prefix_len (λ b. not (eqb b 26)) xs) 0
    by true e = refl
    by false e = omega (arith, e)

pub ends_source : (xs : List ℕ) (n : ℕ) → n ≡ prefix_len (λ b. not (eqb b 26)) xs → n ≡ length (source xs)
ends_source xs n e = e ∙ sym (source-is_run xs)
