-- The bursts of an update, robot by robot, from the slots and from all shots.
use Rattle.std.proofs.Common.{◌≡◌, ℕ, zero, suc, ◌+◌, ◌<◌, Bool, true, false, ◌==◌, cond, List, [], ◌∷◌, ◌++◌, length, map, filter, take, sum, get_or, refl, sym, ap, ◌∙◌, append-nil, arith}
use Rattle.std.specs.List.{All, flat_map, range_with_len}
use Rattle.std.proofs.lemmas.Grind.{flat_map-append}
use Rattle.std.proofs.lemmas.List.{map-append, take_more}
use Rattle.std.proofs.lemmas.List.Elements.{filter-append}
use Rattle.std.proofs.lemmas.List.Sums.{sum_by-append}
use Rattle.std.proofs.lemmas.Simd.{map-map}
use Rattle.arena.specs.Field.{Shot}
use Rattle.arena.specs.Shots.{in_air, due_at, bursts}
use Rattle.arena.specs.Due.{burst_damage, HarmLikeShots}
use Rattle.arena.specs.Arena.{Missile, shot_of}
use Rattle.arena.specs.Representing.{HoldsShots}
use Rattle.arena.specs.Outlook.{Burst, burst_of, burst_by, own_bursts}
use Rattle.arena.proofs.SlotLaws.{inside_is, totals, totals_same, shares}

-- those of a robot's missiles
abbrev pub slot_bursts : ℕ → List (List Missile) → ℕ → List Burst
slot_bursts update slots i = map (burst_by i) (filter (λ m. m.burst == update) (get_or slots i []))

-- one missile more
pub missile_more : (robot update : ℕ) (ms : List Missile) (i : ℕ) (m : Missile) → i < length ms → m ≡ get_or ms i m →
    map (burst_by robot) (filter (λ m. m.burst == update) (take (i + 1) ms)) ≡
    map (burst_by robot) (filter (λ m. m.burst == update) (take i ms)) ++
    cond (m.burst == update) (burst_by robot m ∷ []) []
missile_more robot update ms i m inside at =
    rw
    (take_more ms i m inside, ← at, filter-append (λ (m : Missile). m.burst == update) (take i ms) (m ∷ []), map-append)
    (by_burst (m.burst == update))
  where
    by_burst : (b : Bool) →
        map (burst_by robot) (filter (λ (m : Missile). m.burst == update) (take i ms)) ++
        map (burst_by robot) (cond b (m ∷ []) []) ≡
        map (burst_by robot) (filter (λ (m : Missile). m.burst == update) (take i ms)) ++
        cond b (burst_by robot m ∷ []) []
    by_burst true = refl
    by_burst false = refl

-- a range with one number more
range_next : (a n j : ℕ) → a + n ≡ j → range_with_len a (suc n) ≡ range_with_len a n ++ j ∷ []
range_next a zero j e = let same : a ≡ j = omega arith in ap (λ k. k ∷ []) same
range_next a (suc n) j e = ap (λ l. a ∷ l) (range_next (a + 1) n j (omega arith))

range_more : (n : ℕ) → range_with_len 0 (n + 1) ≡ range_with_len 0 n ++ n ∷ []
range_more n = let on : n + 1 ≡ suc n = omega arith in ap (range_with_len 0) on ∙ range_next 0 n n (omega arith)

-- one robot's missiles more
pub robot_more : (update : ℕ) (slots : List (List Missile)) (i : ℕ) (own : List Missile) (now more : List Burst) →
    i < length slots → own ≡ get_or slots i own →
    now ≡ flat_map (slot_bursts update slots) (range_with_len 0 i) →
    more ≡ now ++ map (burst_by i) (filter (λ m. m.burst == update) own) →
    more ≡ flat_map (slot_bursts update slots) (range_with_len 0 (i + 1))
robot_more update slots i own now more inside at before m =
    let f = slot_bursts update slots in
    let here : own ≡ get_or slots i [] = at ∙ inside_is slots i own [] inside in
    let last : map (burst_by i) (filter (λ m. m.burst == update) own) ≡ flat_map f (i ∷ []) =
    ap (λ ms. map (burst_by i) (filter (λ m. m.burst == update) ms)) here ∙ sym (append-nil (f i)) in
    m ∙ ap (λ l. l ++ map (burst_by i) (filter (λ m. m.burst == update) own)) before ∙
    ap (λ l. flat_map f (range_with_len 0 i) ++ l) last
    ∙ sym (flat_map-append f (range_with_len 0 i) (i ∷ [])) ∙ sym (ap (flat_map f) (range_more i))

-- a robot's slots hold its shots in the air
own_is : (update i : ℕ) (ms : List Missile) →
    map (burst_by i) (filter (λ m. m.burst == update) ms) ≡ map burst_of (due_at update (map (shot_of i) ms))
unfolding due_at burst_by shot_of
own_is update i [] = refl
own_is update i (m ∷ ms) = by_burst (m.burst == update) (own_is update i ms)
  where
    by_burst : (b : Bool) →
        map (burst_by i) (filter (λ m. m.burst == update) ms) ≡ map burst_of (due_at update (map (shot_of i) ms)) →
        map (burst_by i) (cond b (m ∷ filter (λ m. m.burst == update) ms) (filter (λ m. m.burst == update) ms)) ≡
        map burst_of
        (cond b (shot_of i m ∷ due_at update (map (shot_of i) ms)) (due_at update (map (shot_of i) ms)))
    by_burst true e = ap (λ l. burst_of (shot_of i m) ∷ l) e
    by_burst false e = e

flat_same : (f g : ℕ → List Burst) (a n : ℕ) → ((i : ℕ) → i < a + n → f i ≡ g i) →
    flat_map f (range_with_len a n) ≡ flat_map g (range_with_len a n)
flat_same f g a zero h = refl
flat_same f g a (suc n) h =
    ap (λ l. l ++ flat_map f (range_with_len (a + 1) n)) (h a (omega arith)) ∙
    ap (λ l. g a ++ l) (flat_same f g (a + 1) n (λ i l. h i (omega arith)))

pub all_bursts : (update updates : ℕ) (slots : List (List Missile)) (shots : List Shot) →
    HoldsShots updates slots shots →
    flat_map (slot_bursts update slots) (range_with_len 0 (length slots)) ≡
    flat_map (own_bursts update updates shots) (range_with_len 0 (length slots))
unfolding own_bursts
all_bursts update updates slots shots holds =
    flat_same (slot_bursts update slots) (own_bursts update updates shots) 0 (length slots)
    (λ i l. own_is update i (get_or slots i []) ∙
    ap (λ ss. map burst_of (due_at update ss)) (holds.in_air i (omega arith)))

-- they do what all shots do
flat_sum : (g : Burst → ℕ) (h : ℕ → List Burst) (a n : ℕ) →
    sum (map g (flat_map h (range_with_len a n))) ≡ totals (λ k. sum (map g (h (a + k)))) n
flat_sum g h a zero = refl
flat_sum g h a (suc n) =
    let parts : sum (map g (flat_map h (range_with_len a (suc n)))) ≡
    sum (map g (h a)) + sum (map g (flat_map h (range_with_len (a + 1) n))) =
    ap sum (map-append g (h a) (flat_map h (range_with_len (a + 1) n))) ∙
    sum_by-append (λ (x : ℕ). x) (map g (h a)) (map g (flat_map h (range_with_len (a + 1) n))) in
    let same : a ≡ a + 0 = omega arith in
    let here = ap (λ (j : ℕ). sum (map g (h j))) same in
    let rest = flat_sum g h (a + 1) n in
    let on =
    totals_same (λ k. sum (map g (h (a + 1 + k)))) (λ k. sum (map g (h (a + suc k)))) n
    (λ k l. let next : a + 1 + k ≡ a + suc k = omega arith in ap (λ (j : ℕ). sum (map g (h j))) next) in
    omega (arith, parts, here, rest, on)

pub harm_like_shots : (updates update n : ℕ) (shots : List Shot) → update ≡ updates + 1 → All (λ s. s.owner < n) shots →
    HarmLikeShots update shots (flat_map (own_bursts update updates shots) (range_with_len 0 n))
unfolding own_bursts burst_of bursts burst_damage
harm_like_shots updates update n shots e owned x y =
    let own = own_bursts update updates shots in
    flat_sum (burst_damage x y) own 0 n ∙
    totals_same (λ k. sum (map (burst_damage x y) (own (0 + k))))
    (λ k. sum (bursts update (in_air updates k shots) x y)) n
    (λ k l.
    let same : 0 + k ≡ k = omega arith in ap (λ (j : ℕ). sum (map (burst_damage x y) (own j))) same ∙
    ap sum (map-map (burst_damage x y) burst_of (due_at update (in_air updates k shots))))
    ∙ shares updates update x y n shots e owned

-- two lists of the same bursts hurt alike
pub same_harm : (update : ℕ) (shots : List Shot) (now due : List Burst) → now ≡ due → HarmLikeShots update shots due →
    HarmLikeShots update shots now
same_harm update shots now due e h x y = ap (λ bs. sum (map (burst_damage x y) bs)) e ∙ h x y
