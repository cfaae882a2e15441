-- What two names that are the same have alike.
use Rattle.std.proofs.Common.{◌≡◌, ℕ, suc, ◌+◌, ◌-◌, ◌<◌, ◌≤◌, List, [], ◌∷◌, ◌++◌, Bool, true, false, length, take, drop, replicate, refl, sym, ap, ◌∙◌, arith, slice_set, slice_index_or, append_assoc, length-append}
use Rattle.std.specs.List.{prefix_len}
use Rattle.std.proofs.Math.Seq.{set-append_seam}
use Rattle.std.proofs.lemmas.List.{take-append-le, take_all, take_more, length-take-le}
use Rattle.std.proofs.lemmas.List.Sums.{prefix_len-drop_no}
use Rattle.std.specs.Str.{bytes_eq}
use Rattle.std.proofs.lemmas.Slice.Eq.{bytes_eq-Decides}
use Rattle.tokens.specs.Characters.{is_name_byte}
use Rattle.tokens.specs.Lexing.{BeginsName}
use Rattle.tokens.specs.Name.{IsPadded, padded, padded-kept, length-kept}

-- the same name is kept alike
pub same_length : {xs ys : List ℕ} {m n : ℕ} → IsPadded xs m → IsPadded ys n → take m xs ≡ take n ys → m ≡ n
same_length p q e = sym (length-kept p) ∙ ap length e ∙ length-kept q

pub same_bytes : {xs ys : List ℕ} {m n : ℕ} → IsPadded xs m → IsPadded ys n → take m xs ≡ take n ys → xs ≡ ys
same_bytes p q e = sym (padded-kept p) ∙ ap padded e ∙ padded-kept q

pub ruleset same_kept = (same_length, same_bytes)

-- what differs is no other name
pub other_name : (xs ys : List ℕ) (t : Bool) → (xs ≡ ys → t ≡ true) → t ≡ false → bytes_eq xs ys ≡ false
other_name xs ys t h f = by (bytes_eq xs ys) refl
  where
    by : (b : Bool) → bytes_eq xs ys ≡ b → bytes_eq xs ys ≡ false
    by false e = e
    by true e = let same = h ((bytes_eq-Decides xs ys).0 e) in absurd cc

-- a name takes a byte more in its field
padded-put : (name : List ℕ) (b n : ℕ) → length name ≡ n → n < 31 →
    slice_set (padded name) n b ≡ padded (name ++ b ∷ [])
padded-put name b n l h =
    let k : 31 - length name ≡ suc (30 - n) = omega (arith, l, h) in
    let m : 31 - length (name ++ b ∷ []) ≡ 30 - n = omega (arith, length-append name (b ∷ []), l) in
    ap (λ j. slice_set (name ++ replicate j 0) n b) k ∙
    ap (λ i. slice_set (name ++ 0 ∷ replicate (30 - n) 0) i b) (sym l) ∙ set-append_seam name 0 (replicate (30 - n) 0) b
    ∙ sym (append_assoc name (b ∷ []) (replicate (30 - n) 0)) ∙ ap (λ j. (name ++ b ∷ []) ++ replicate j 0) (sym m)

-- the bytes of a name that has begun, with one more
pub begun-more : (first i : ℕ) (rest bytes : List ℕ) → i < length rest → i + 1 < 31 →
    bytes ≡ padded (first ∷ take i rest) →
    slice_set bytes (i + 1) (slice_index_or rest i 0) ≡ padded (first ∷ take (i + 1) rest)
begun-more first i rest bytes h room e =
    let l = length-take-le i rest (omega (arith, h)) in
    ap (λ bs. slice_set bs (i + 1) (slice_index_or rest i 0)) e ∙
    padded-put (first ∷ take i rest) (slice_index_or rest i 0) (i + 1) (omega (arith, l)) room
    ∙ ap (λ t. padded (first ∷ t)) (sym (take_more rest i 0 h))

-- its first bytes, which are kept as a name is
begun-is : (first i n : ℕ) (rest bytes : List ℕ) → i ≤ length rest → n ≡ i + 1 →
    bytes ≡ padded (first ∷ take i rest) → take n bytes ≡ first ∷ take i rest
begun-is first i n rest bytes h e b =
    let l = length-take-le i rest h in
    let name = first ∷ take i rest in
    ap (take n) b ∙ take-append-le n name (replicate (31 - length name) 0) (omega (arith, l, e)) ∙
    take_all n name (omega (arith, l, e))

pub begun-padded : (first i n : ℕ) (rest bytes : List ℕ) → i ≤ length rest → n ≡ i + 1 → n ≤ 31 →
    bytes ≡ padded (first ∷ take i rest) → IsPadded bytes n
begun-padded first i n rest bytes h e most b =
    record { within = most; filled = b ∙ ap padded (sym (begun-is first i n rest bytes h e b)) }

-- a name that has begun ends
pub begun-ends : (first i : ℕ) (rest bytes : List ℕ) → i < length rest → bytes ≡ padded (first ∷ take i rest) →
    prefix_len is_name_byte rest ≡ i + prefix_len is_name_byte (drop i rest) →
    is_name_byte (slice_index_or rest i 0) ≡ false → BeginsName first rest (take (i + 1) bytes)
begun-ends first i rest bytes h e run ends =
    let count : prefix_len is_name_byte rest ≡ i =
    run ∙ ap (λ k. i + k) (prefix_len-drop_no is_name_byte rest i 0 h ends) ∙ omega arith in
    record {
      is = begun-is first i (i + 1) rest bytes (omega (arith, h)) refl e ∙ ap (λ n. first ∷ take n rest) (sym count);
      ended = omega (arith, count, h);
    }
