-- The table of the blanks, looked up at the low four bits of each byte of a vector.
use Rattle.std.proofs.Common.{◌≡◌, ℕ, ◌+◌, ◌*◌, ◌/◌, ◌%◌, ◌<◌, true, eqb, List, map, length, get_or, replicate, bit_and, refl, sym, ap, ◌∙◌, arith, w8}
use Rattle.std.proofs.lemmas.Bool.{agree_below, agree_below_at, eqb-true}
use Rattle.std.proofs.lemmas.List.{get_or-map, length-map, ext_get_or}
use Rattle.std.proofs.lemmas.Nat.{and_le_r}
use Rattle.std.proofs.lemmas.Simd.{Each1-all, Each1-zip2, Each2-splat, length-zip2, zip2_splat, swz_l, SwzOk, SwzOk-from_below, length-swz_l, get_or-swz_l_below}
use lib.Lanes.{zip2}

abbrev pub low : List ℕ → List ℕ
low v = zip2 bit_and v (replicate 32 15)

-- four bits are an index into each half
pub low-ok : (v : List ℕ) → length v ≡ 32 → SwzOk w8 16 32 0 (low v)
low-ok v long =
    let small = Each1-all (λ a. bit_and a 15 < 16) (λ a. omega (arith, and_le_r a 15)) v in
    SwzOk-from_below w8 16 2 32 0 (low v) refl (omega (arith, length-zip2 bit_and v (replicate 32 15) long))
    (Each1-zip2 bit_and (λ j. j < 16) v (replicate 32 15) (Each2-splat (λ a b. bit_and a b < 16) v 32 15 small))

-- a table of two equal halves
pub looked_up : (table half v : List ℕ) → length v ≡ 32 →
    agree_below (λ k. eqb (get_or table k 0) (get_or half (k % 16) 0)) (λ _. true) 32 ≡ true →
    swz_l w8 16 table 0 (low v) ≡ map (λ x. get_or half (bit_and x 15) 0) v
looked_up table half v long all =
    let e : low v ≡ map (λ x. bit_and x 15) v = zip2_splat bit_and v 32 15 long in
    let n : length (low v) ≡ 32 = ap length e ∙ length-map v (λ x. bit_and x 15) ∙ long in
    ext_get_or 0 _ _
    (length-swz_l w8 16 table 0 (low v) ∙ n ∙ sym (length-map v (λ x. get_or half (bit_and x 15) 0) ∙ long)) (λ i h.
    let lt : i < 32 = omega (arith, length-swz_l w8 16 table 0 (low v), n) in
    let within : i < length v = omega (arith, long) in
    let is : get_or (low v) i 0 ≡ bit_and (get_or v i 0) 15 =
    ap (λ l. get_or l i 0) e ∙ get_or-map (λ x. bit_and x 15) v i 0 0 within in
    let below : get_or (low v) i 0 < 16 = omega (arith, is, and_le_r (get_or v i 0) 15) in
    let same : (16 * ((0 + i) / 16) + get_or (low v) i 0) % 16 ≡ get_or (low v) i 0 = omega (arith, below) in
    get_or-swz_l_below w8 16 table 0 (low v) i (omega (arith, n)) below
    ∙
    eqb-true _ _
    (agree_below_at (λ k. eqb (get_or table k 0) (get_or half (k % 16) 0)) (λ _. true) 32
    (16 * ((0 + i) / 16) + get_or (low v) i 0) all (omega (arith, below)))
    ∙ ap (λ j. get_or half j 0) (same ∙ is) ∙ sym (get_or-map (λ x. get_or half (bit_and x 15) 0) v i 0 0 within))
