-- Which places a path keeps when one more comes, and when each second one is dropped.
use Rattle.std.proofs.Common.{◌≡◌, ℕ, zero, suc, ◌+◌, ◌*◌, ◌/◌, ◌<◌, ◌≤◌, ◌∙◌, sym, ap, ap₂, List, [], ◌∷◌, ◌++◌, refl, arith, length, inl, inr}
use Rattle.std.specs.Prelude.{Some, slice_get}
use Rattle.std.proofs.lemmas.Bool.{cases_lt, cases_eq, cases_order}
use Rattle.std.proofs.lemmas.List.{length-append}
use Rattle.std.proofs.lemmas.Option.{slice_get_past}
use Rattle.std.proofs.Math.Nat.{suc-mul, mul_assoc, mul-le-mul_right, le_of_mul-le-mul_right}
use Rattle.watching.specs.declared.places.Place.{Place}
use Rattle.watching.specs.Path.{Path, Keeps}

get_before : (xs : List Place) (x : Place) (n : ℕ) → n < length xs → slice_get (xs ++ x ∷ []) n ≡ slice_get xs n
get_before [] x n h = absurd (omega arith)
get_before (y ∷ ys) x zero h = refl
get_before (y ∷ ys) x (suc n) h = get_before ys x n (omega arith)

get_last : (xs : List Place) (x : Place) → slice_get (xs ++ x ∷ []) (length xs) ≡ Some x
get_last [] x = refl
get_last (y ∷ ys) x = get_last ys x

get_beyond : (xs : List Place) (x : Place) (n : ℕ) → length xs < n → slice_get (xs ++ x ∷ []) n ≡ slice_get xs n
get_beyond xs x n h =
    slice_get_past (xs ++ x ∷ []) n (omega (arith, length-append xs (x ∷ []))) ∙ sym (slice_get_past xs n (omega arith))

-- one more place changes no other
get_other : (xs : List Place) (x : Place) (n : ℕ) → (n ≡ length xs → ⊥) → slice_get (xs ++ x ∷ []) n ≡ slice_get xs n
get_other xs x n off = elim (cases_order n (length xs)) [
  | inl e ↦ absurd (off e)
  | inr (inl h) ↦ get_before xs x n h
  | inr (inr h) ↦ get_beyond xs x n h
]

-- between two multiples of the stride there is none
between : (n k stride skip len : ℕ) → 0 < skip → skip < stride → len + skip ≡ k * stride → n * stride ≡ len → ⊥
between n k stride skip len some small next here = elim (cases_lt n k) [
  | inl h ↦
      let step : suc n * stride ≤ k * stride = mul-le-mul_right stride (omega arith) in
      omega (arith, step, suc-mul n stride)
  | inr h ↦
      let back : k * stride ≤ n * stride = mul-le-mul_right stride h in
      omega (arith, back)
]

same_multiple : (n k stride : ℕ) → 0 < stride → n * stride ≡ k * stride → n ≡ k
same_multiple n k stride some e =
    let up : n ≤ k = le_of_mul-le-mul_right {k = stride} (omega (arith, e)) some in
    let down : k ≤ n = le_of_mul-le-mul_right {k = stride} (omega (arith, e)) some in
    omega (arith, up, down)

-- a place that isn't due
pub keeps_skipped : (t u : Path) (ps : List Place) (p : Place) → Keeps t ps → t.skip < t.stride → u.places ≡ t.places →
    u.stride ≡ t.stride
    → u.skip + 1 ≡ t.skip → Keeps u (ps ++ p ∷ [])
keeps_skipped t u ps p k small same stride skip = record {
  each = λ n.
      ap (λ l. slice_get l n) same ∙ k.each n
      ∙
      sym
      (get_other ps p (n * t.stride)
      (between n (length t.places) t.stride t.skip (length ps) (omega arith) small k.next))
      ∙ ap (λ s. slice_get (ps ++ p ∷ []) (n * s)) (sym stride);
  next =
      let here : length u.places * u.stride ≡ length t.places * t.stride = ap₂ (λ l s. length l * s) same stride in
      let kept : length ps + t.skip ≡ length t.places * t.stride = k.next in
      omega (arith, length-append ps (p ∷ []), here, kept);
}

-- a place that is due
pub keeps_pushed : (t u : Path) (ps : List Place) (p : Place) → Keeps t ps → t.skip ≡ 0 → 0 < t.stride →
    u.places ≡ t.places ++ p ∷ []
    → u.stride ≡ t.stride → u.skip + 1 ≡ t.stride → Keeps u (ps ++ p ∷ [])
keeps_pushed t u ps p k due some more stride skip =
    let len : length ps ≡ length t.places * t.stride = omega (arith, k.next) in
    record {
      each = λ n.
          ap (λ l. slice_get l n) more
          ∙ elim (cases_eq n (length t.places)) [
            | inl e ↦
                ap (slice_get (t.places ++ p ∷ [])) e ∙ get_last t.places p ∙ sym (get_last ps p)
                ∙ ap (slice_get (ps ++ p ∷ [])) (len ∙ ap (λ m. m * t.stride) (sym e))
            | inr off ↦
                get_other t.places p n off ∙ k.each n
                ∙
                sym
                (get_other ps p (n * t.stride)
                (λ e. off (same_multiple n (length t.places) t.stride some (e ∙ len))))
          ]
          ∙ ap (λ s. slice_get (ps ++ p ∷ []) (n * s)) (sym stride);
      next =
          let count : length u.places ≡ suc (length t.places) =
          ap length more ∙ length-append t.places (p ∷ []) ∙ omega arith in
          let here : length u.places * u.stride ≡ suc (length t.places) * t.stride = ap₂ (λ l s. l * s) count stride in
          omega (arith, length-append ps (p ∷ []), here, len, suc-mul (length t.places) t.stride);
    }

-- a full path of which each second place is dropped
pub keeps_thinned : (t u : Path) (ps : List Place) → Keeps t ps → t.skip ≡ 0 → u.skip ≡ 0 → length t.places ≡ 2000
    → ((n : ℕ) → n < length t.places / 2 → slice_get u.places n ≡ slice_get t.places (2 * n)) →
    length u.places ≡ length t.places / 2
    → u.stride ≡ 2 * t.stride → Keeps u ps
keeps_thinned t u ps k due now full half count stride =
    let len : length ps ≡ 2000 * t.stride = omega (arith, k.next ∙ ap (λ m. m * t.stride) full) in
    let place : (n : ℕ) → n * u.stride ≡ 2 * n * t.stride =
    λ n. ap (λ s. n * s) stride ∙ sym (mul_assoc n 2 t.stride) ∙ ap (λ m. m * t.stride) (omega arith) in
    record {
      each = λ n. elim (cases_lt n 1000) [
        | inl h ↦ half n (omega arith) ∙ k.each (2 * n) ∙ ap (slice_get ps) (sym (place n))
        | inr h ↦
            let far : 2000 * t.stride ≤ 2 * n * t.stride = mul-le-mul_right t.stride (omega arith) in
            slice_get_past u.places n (omega arith) ∙
            sym (slice_get_past ps (n * u.stride) (omega (arith, far, place n, len)))
      ];
      next =
          let here : length u.places * u.stride ≡ 1000 * (2 * t.stride) =
          ap₂ (λ l s. l * s) (count ∙ omega arith) stride in
          omega (arith, here, len);
    }
