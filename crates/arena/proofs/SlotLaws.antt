-- Two missiles at most of each robot in the air, against the list of all shots.
use Rattle.std.proofs.Common.{◌≡◌, ◌≢◌, ℕ, zero, suc, ◌+◌, ◌<◌, ◌≤◌, List, [], ◌∷◌, ◌++◌, length, map, filter, take, sum, get_or, set, All, replicate, Bool, true, false, ◌&&◌, ◌==◌, nat_lt, cond, refl, sym, ap, ◌∙◌, subst, ◌⊎◌, inl, inr, length-append, length-set, append-nil, not, arith}
use Rattle.std.proofs.lemmas.Bool.{ne_eqb, ltb-true}
use Rattle.std.proofs.lemmas.Bool.Decides.{nat_tests, eqb_tells}
use Rattle.std.proofs.lemmas.List.{map-append, get_or-set_same, get_or-set_other, length-map}
use Rattle.std.proofs.lemmas.List.Elements.{All-append, All-more, All-push, All-set, filter-append}
use Rattle.std.proofs.lemmas.List.Filters.{length-filter_both}
use Rattle.std.proofs.lemmas.List.Sums.{sum_by-append}
use Rattle.arena.specs.Field.{Shot}
use Rattle.arena.specs.Collisions.{square}
use Rattle.arena.specs.Shots.{ring, in_air, due_at, bursts}
use Rattle.arena.specs.Arena.{Missile, shot_of}
use Rattle.arena.specs.Still.{NoBurstBefore}
use Rattle.arena.specs.Representing.{HoldsShots}

pub sum-cons : (n : ℕ) (ns : List ℕ) → sum (n ∷ ns) ≡ n + sum ns
sum-cons n ns = let e = sum_by-append (λ x. x) (n ∷ []) ns in omega arith

-- what the missiles of one robot take from a robot at a place
abbrev pub hurt_by : ℕ → ℕ → ℕ → List Missile → ℕ
hurt_by update x y missiles = sum (bursts update (map (shot_of 0) missiles) x y)

-- the shots of one robot, in its slots and among all shots
ends_with : (updates owner : ℕ) (shots : List Shot) (s : Shot) → s.owner ≡ owner → updates < s.burst →
    in_air updates owner (shots ++ s ∷ []) ≡ in_air updates owner shots ++ s ∷ []
unfolding in_air
ends_with updates owner shots s mine flies =
    let yes : ((s.owner == owner) && nat_lt updates s.burst) ≡ true = grind (arith, nat_tests) in
    filter-append (λ s. (s.owner == owner) && nat_lt updates s.burst) shots (s ∷ []) ∙
    ap (λ b. in_air updates owner shots ++ cond b (s ∷ []) []) yes

other_shot : (updates owner : ℕ) (shots : List Shot) (s : Shot) → s.owner ≢ owner →
    in_air updates owner (shots ++ s ∷ []) ≡ in_air updates owner shots
unfolding in_air
other_shot updates owner shots s other =
    let no : ((s.owner == owner) && nat_lt updates s.burst) ≡ false = grind (arith, nat_tests) in
    filter-append (λ s. (s.owner == owner) && nat_lt updates s.burst) shots (s ∷ []) ∙
    ap (λ b. in_air updates owner shots ++ cond b (s ∷ []) []) no ∙ append-nil (in_air updates owner shots)

pub holds_fired : (updates : ℕ) (slots : List (List Missile)) (shots : List Shot) (robot : ℕ) (m : Missile) →
    robot < length slots → updates < m.burst → HoldsShots updates slots shots →
    HoldsShots updates (set slots robot (get_or slots robot [] ++ m ∷ [])) (shots ++ shot_of robot m ∷ [])
unfolding shot_of
holds_fired updates slots shots robot m inside flies holds = record {
  owned = rw length-set
      (All-append (λ s. s.owner < length slots) shots (shot_of robot m ∷ []) holds.owned (λ k d l. only k d l));
  in_air = λ i l. own i (rw length-set at l) (eqb_tells robot i);
}
  where
    only : (k : ℕ) (d : Shot) → k < 1 → (get_or (shot_of robot m ∷ []) k d).owner < length slots
    only zero d l = inside
    only (suc k) d l = absurd (omega arith)

    own : (i : ℕ) → i < length slots → (((robot == i) ≡ true) × (robot ≡ i)) ⊎ (((robot == i) ≡ false) × (robot ≢ i)) →
        map (shot_of i) (get_or (set slots robot (get_or slots robot [] ++ m ∷ [])) i []) ≡
        in_air updates i (shots ++ shot_of robot m ∷ [])
    own i l (inl (t, same)) =
        subst
        (λ j. map (shot_of j) (get_or (set slots robot (get_or slots robot [] ++ m ∷ [])) j []) ≡
        in_air updates j (shots ++ shot_of robot m ∷ [])) same
        (rw (
          get_or-set_same slots robot (get_or slots robot [] ++ m ∷ []) [] inside,
          map-append,
          holds.in_air robot inside,
        ) (sym (ends_with updates robot shots (shot_of robot m) refl flies)))
    own i l (inr (t, other)) =
        rw (get_or-set_other slots robot i (get_or slots robot [] ++ m ∷ []) [] (λ e. other (sym e)))
        (holds.in_air i l ∙ sym (other_shot updates i shots (shot_of robot m) other))

-- what is inside a list doesn't depend on what is read past it
pub inside_is : {X : Type 0} (xs : List X) (i : ℕ) (d e : X) → i < length xs → get_or xs i d ≡ get_or xs i e
inside_is [] i d e h = absurd (omega arith)
inside_is (x ∷ xs) zero d e h = refl
inside_is (x ∷ xs) (suc i) d e h = inside_is xs i d e (omega arith)

-- a robot that may fire has room for one missile more
pub room_is : (slots : List (List Missile)) (robot : ℕ) (held : List Missile) → robot < length slots →
    nat_lt (length (get_or slots robot [])) 2 ≡ true → length (get_or slots robot held) < 2
room_is slots robot held inside free =
    let few = ltb-true (length (get_or slots robot [])) 2 free in
    let same = ap length (inside_is slots robot [] held inside) in
    omega (arith, few, same)

pub two_fired : (slots : List (List Missile)) (robot : ℕ) (held own : List Missile) (m : Missile) →
    robot < length slots → nat_lt (length (get_or slots robot [])) 2 ≡ true → own ≡ get_or slots robot held ++ m ∷ [] →
    All (λ s. length s ≤ 2) slots → All (λ s. length s ≤ 2) (set slots robot own)
two_fired slots robot held own m inside free e two =
    let few = room_is slots robot held inside free in
    let size = ap length e ∙ length-append (get_or slots robot held) (m ∷ []) in
    All-set (λ (s : List Missile). length s ≤ 2) slots robot own (omega (arith, few, size)) two

pub before_fired : (update : ℕ) (slots : List (List Missile)) (robot : ℕ) (held own : List Missile) (m : Missile) →
    robot < length slots → own ≡ get_or slots robot held ++ m ∷ [] → update ≤ m.burst → NoBurstBefore update slots →
    NoBurstBefore update (set slots robot own)
before_fired update slots robot held own m inside e sooner before =
    let P : List Missile → Type 0 = λ ms. All (λ (m : Missile). update ≤ m.burst) ms in
    All-set P slots robot own
    (subst P (sym e)
    (All-push (λ (m : Missile). update ≤ m.burst) (get_or slots robot held) m (before robot held inside) sooner))
    before

-- the missiles that still fly after an update
flying : (update i : ℕ) (ms : List Missile) →
    map (shot_of i) (filter (λ m. nat_lt update m.burst) ms) ≡ filter (λ s. nat_lt update s.burst) (map (shot_of i) ms)
unfolding shot_of
flying update i [] = refl
flying update i (m ∷ ms) = step (nat_lt update m.burst) (flying update i ms)
  where
    step : (b : Bool) →
        map (shot_of i) (filter (λ m. nat_lt update m.burst) ms) ≡
        filter (λ s. nat_lt update s.burst) (map (shot_of i) ms) →
        map (shot_of i) (cond b (m ∷ filter (λ m. nat_lt update m.burst) ms) (filter (λ m. nat_lt update m.burst) ms)) ≡
        cond b (shot_of i m ∷ filter (λ s. nat_lt update s.burst) (map (shot_of i) ms))
        (filter (λ s. nat_lt update s.burst) (map (shot_of i) ms))
    step true e = ap (λ ss. shot_of i m ∷ ss) e
    step false e = e

later : (updates update i : ℕ) (shots : List Shot) → updates ≤ update →
    filter (λ s. nat_lt update s.burst) (in_air updates i shots) ≡ in_air update i shots
unfolding in_air
later updates update i [] h = refl
later updates update i (s ∷ shots) h =
    step (s.owner == i) (nat_lt updates s.burst) (nat_lt update s.burst) refl (λ e. grind (arith, nat_tests))
    (later updates update i shots h)
  where
    step : (o a b : Bool) → nat_lt update s.burst ≡ b → (b ≡ true → a ≡ true) →
        filter (λ s. nat_lt update s.burst) (in_air updates i shots) ≡ in_air update i shots →
        filter (λ s. nat_lt update s.burst) (cond (o && a) (s ∷ in_air updates i shots) (in_air updates i shots)) ≡
        cond (o && b) (s ∷ in_air update i shots) (in_air update i shots)
    step false a b e f rest = rest
    step true true true e f rest = rw e (ap (λ ss. s ∷ ss) rest)
    step true true false e f rest = rw e rest
    step true false false e f rest = rest
    step true false true e f rest = let never = f refl in absurd (cc)

pub holds_landed : (updates update : ℕ) (slots landed : List (List Missile)) (shots : List Shot) →
    update ≡ updates + 1 → length landed ≡ length slots →
    ((i : ℕ) → i < length slots → get_or landed i [] ≡ filter (λ m. nat_lt update m.burst) (get_or slots i [])) →
    HoldsShots updates slots shots → HoldsShots update landed shots
holds_landed updates update slots landed shots e size each holds = record {
  owned = rw size holds.owned;
  in_air = λ i l.
      let inside : i < length slots = omega (arith, l, size) in
      rw (each i inside, flying update i (get_or slots i []), holds.in_air i inside)
      (later updates update i shots (omega arith));
}

-- nothing in the air yet
pub holds_none : (n : ℕ) (slots : List (List Missile)) → slots ≡ replicate n [] → HoldsShots 0 slots []
unfolding in_air
holds_none n slots e = record {
  owned = λ k d l. absurd (omega arith);
  in_air = λ i l. let none : get_or slots i [] ≡ [] = rw e (empty n i) in ap (map (shot_of i)) none;
}
  where
    empty : (n i : ℕ) → get_or {A = List Missile} (replicate n []) i [] ≡ []
    empty zero i = refl
    empty (suc n) zero = refl
    empty (suc n) (suc i) = empty n i

-- a sum over the robots, first to last
abbrev pub totals : (ℕ → ℕ) → ℕ → ℕ
totals f zero = 0
totals f (suc n) = f 0 + totals (λ i. f (suc i)) n

pub totals_same : (f g : ℕ → ℕ) (n : ℕ) → ((i : ℕ) → i < n → f i ≡ g i) → totals f n ≡ totals g n
totals_same f g zero h = refl
totals_same f g (suc n) h =
    let here = h 0 (omega arith) in
    let rest = totals_same (λ i. f (suc i)) (λ i. g (suc i)) n (λ i l. h (suc i) (omega arith)) in
    omega arith

totals_of_sums : (f g : ℕ → ℕ) (n : ℕ) → totals (λ i. f i + g i) n ≡ totals f n + totals g n
totals_of_sums f g zero = refl
totals_of_sums f g (suc n) = let rest = totals_of_sums (λ i. f (suc i)) (λ i. g (suc i)) n in omega arith

totals_of_none : (n : ℕ) → totals (λ i. 0) n ≡ 0
totals_of_none zero = refl
totals_of_none (suc n) = let rest = totals_of_none n in omega arith

-- of the robots one owns the shot
not_its : (a b value : ℕ) → a ≢ b → cond (a == b) value 0 ≡ 0
not_its a b value h = ap (λ t. cond t value 0) (ne_eqb a b h)

pub both_more : (a b : ℕ) → (suc a == suc b) ≡ (a == b)
both_more a b = grind (arith, nat_tests)

totals_of_one : (owner value n : ℕ) → owner < n → totals (λ i. cond (owner == i) value 0) n ≡ value
totals_of_one owner value zero h = absurd (omega arith)
totals_of_one zero value (suc n) h =
    let rest =
    totals_same (λ i. cond (0 == suc i) value 0) (λ i. 0) n
    (λ i l. not_its 0 (suc i) value (λ e. absurd (omega arith))) ∙ totals_of_none n in
    omega arith
totals_of_one (suc owner) value (suc n) h =
    let first = not_its (suc owner) 0 value (λ e. absurd (omega arith)) in
    let rest =
    totals_same (λ i. cond (suc owner == suc i) value 0) (λ i. cond (owner == i) value 0) n
    (λ i l. ap (λ t. cond t value 0) (both_more owner i)) ∙ totals_of_one owner value n (omega arith) in
    omega arith

totals_of_list : {X : Type 0} (f : X → ℕ) (xs : List X) (d : X) →
    sum (map f xs) ≡ totals (λ i. f (get_or xs i d)) (length xs)
totals_of_list f [] d = refl
totals_of_list f (x ∷ xs) d = let e = sum-cons (f x) (map f xs) in let rest = totals_of_list f xs d in omega arith

-- a burst of an update takes this, and another takes nothing
hurt : ℕ → ℕ → ℕ → Shot → ℕ
hurt update x y s = cond (s.burst == update) (ring (square x y s.x s.y)) 0

sum_of_bursts : (update x y : ℕ) (s : Shot) (shots : List Shot) →
    sum (bursts update (s ∷ shots) x y) ≡ hurt update x y s + sum (bursts update shots x y)
unfolding bursts due_at hurt
sum_of_bursts update x y s shots = step (s.burst == update)
  where
    rest : List ℕ
    rest = bursts update shots x y

    step : (b : Bool) →
        sum (map (λ s. ring (square x y s.x s.y)) (cond b (s ∷ due_at update shots) (due_at update shots))) ≡
        cond b (ring (square x y s.x s.y)) 0 + sum rest
    step true = sum-cons (ring (square x y s.x s.y)) rest
    step false = omega arith

-- whose missile it is doesn't matter where it bursts
any_owner : (update x y i j : ℕ) (ms : List Missile) →
    sum (bursts update (map (shot_of i) ms) x y) ≡ sum (bursts update (map (shot_of j) ms) x y)
unfolding shot_of hurt
any_owner update x y i j [] = refl
any_owner update x y i j (m ∷ ms) =
    let first = sum_of_bursts update x y (shot_of i m) (map (shot_of i) ms) in
    let second = sum_of_bursts update x y (shot_of j m) (map (shot_of j) ms) in
    let rest = any_owner update x y i j ms in
    omega arith

-- a shot that bursts in the next update is in the air, and of one robot
own_share : (updates update x y i : ℕ) (s : Shot) (shots : List Shot) → update ≡ updates + 1 →
    sum (bursts update (in_air updates i (s ∷ shots)) x y) ≡
    cond (s.owner == i) (hurt update x y s) 0 + sum (bursts update (in_air updates i shots) x y)
unfolding in_air hurt
own_share updates update x y i s shots e =
    step (s.owner == i) (nat_lt updates s.burst) (s.burst == update) refl (λ t. grind (arith, nat_tests))
    (sum_of_bursts update x y s (in_air updates i shots))
  where
    step : (o a b : Bool) → (s.burst == update) ≡ b → (b ≡ true → a ≡ true) →
        sum (bursts update (s ∷ in_air updates i shots) x y) ≡
        hurt update x y s + sum (bursts update (in_air updates i shots) x y) →
        sum (bursts update (cond (o && a) (s ∷ in_air updates i shots) (in_air updates i shots)) x y) ≡
        cond o (cond b (ring (square x y s.x s.y)) 0) 0 + sum (bursts update (in_air updates i shots) x y)
    step false a b t f h = omega arith
    step true true b t f h = rw t at h
    step true false true t f h = let never = f refl in absurd (cc)
    step true false false t f h = omega arith

no_shares : (updates update x y n : ℕ) →
    totals (λ i. sum (bursts update (in_air updates i []) x y)) n ≡ sum (bursts update [] x y)
unfolding in_air bursts due_at
no_shares updates update x y n = totals_of_none n

pub shares : (updates update x y n : ℕ) (shots : List Shot) → update ≡ updates + 1 → All (λ s. s.owner < n) shots →
    totals (λ i. sum (bursts update (in_air updates i shots) x y)) n ≡ sum (bursts update shots x y)
shares updates update x y n [] e owned = no_shares updates update x y n
shares updates update x y n (s ∷ shots) e owned =
    let share = λ (i : ℕ). sum (bursts update (in_air updates i shots) x y) in
    let mine = λ (i : ℕ). cond (s.owner == i) (hurt update x y s) 0 in
    let split =
    totals_same (λ i. sum (bursts update (in_air updates i (s ∷ shots)) x y)) (λ i. mine i + share i) n
    (λ i l. own_share updates update x y i s shots e) in
    let both = totals_of_sums mine share n in
    let one = totals_of_one s.owner (hurt update x y s) n (owned 0 s (omega arith)) in
    let rest = shares updates update x y n shots e (λ k d l. owned (suc k) d (omega arith)) in
    let all = sum_of_bursts update x y s shots in
    omega arith

-- what the slots take is what all shots take
pub all_hurts : (updates update x y : ℕ) (slots : List (List Missile)) (shots : List Shot) → update ≡ updates + 1 →
    HoldsShots updates slots shots → sum (map (hurt_by update x y) slots) ≡ sum (bursts update shots x y)
all_hurts updates update x y slots shots e holds =
    totals_of_list (hurt_by update x y) slots []
    ∙
    totals_same (λ i. hurt_by update x y (get_or slots i [])) (λ i. sum (bursts update (in_air updates i shots) x y))
    (length slots)
    (λ i l. any_owner update x y 0 i (get_or slots i []) ∙ ap (λ ss. sum (bursts update ss x y)) (holds.in_air i l))
    ∙ shares updates update x y (length slots) shots e holds.owned

none_past : (updates i n : ℕ) (shots : List Shot) → n ≤ i → All (λ s. s.owner < n) shots →
    length (in_air updates i shots) ≡ 0
unfolding in_air
none_past updates i n [] h owned = refl
none_past updates i n (s ∷ shots) h owned =
    let mine = owned 0 s (omega arith) in
    let no : (s.owner == i) ≡ false = ne_eqb s.owner i (λ e. absurd (omega arith)) in
    rw no (none_past updates i n shots h (λ k d l. owned (suc k) d (omega arith)))

-- no robot has more than two in the air
pub at_most_two : (updates : ℕ) (slots : List (List Missile)) (shots : List Shot) → HoldsShots updates slots shots →
    All (λ s. length s ≤ 2) slots → (i : ℕ) → length (in_air updates i shots) ≤ 2
at_most_two updates slots shots holds two i =
    by_test (nat_lt i (length slots)) (λ e. grind (arith, nat_tests)) (λ e. grind (arith, nat_tests))
  where
    by_test : (b : Bool) → (b ≡ true → i < length slots) → (b ≡ false → length slots ≤ i) →
        length (in_air updates i shots) ≤ 2
    by_test true f g = let l = f refl in subst (λ ss. length ss ≤ 2) (holds.in_air i l) (rw length-map (two i [] l))
    by_test false f g = let none = none_past updates i (length slots) shots (g refl) holds.owned in omega arith

pub two_landed : (update : ℕ) (slots landed : List (List Missile)) → length landed ≡ length slots →
    ((i : ℕ) → i < length slots → get_or landed i [] ≡ filter (λ m. nat_lt update m.burst) (get_or slots i [])) →
    All (λ s. length s ≤ 2) slots → All (λ s. length s ≤ 2) landed
two_landed update slots landed size each two k d l =
    let inside : k < length slots = omega (arith, l, size) in
    let fewer =
    length-filter_both (λ (m : Missile). nat_lt update m.burst) (λ m. not (nat_lt update m.burst)) (λ m. refl)
    (get_or slots k []) in
    let most = two k [] inside in
    rw (inside_is landed k d [] l, each k inside) (omega arith)

-- with nothing in the air nothing is hurt, and nothing is in the air after the update
sum_none : (f : List Missile → ℕ) (slots : List (List Missile)) → f [] ≡ 0 → All (λ s. s ≡ []) slots →
    sum (map f slots) ≡ 0
sum_none f [] e none = refl
sum_none f (s ∷ slots) e none =
    let here : f s ≡ 0 = ap f (none 0 s (omega arith)) ∙ e in
    let rest = sum_none f slots e (λ k d l. none (suc k) d (omega arith)) in
    let both = sum-cons (f s) (map f slots) in
    omega arith

pub none_hurt : (updates update x y : ℕ) (slots : List (List Missile)) (shots : List Shot) → update ≡ updates + 1 →
    HoldsShots updates slots shots → All (λ s. s ≡ []) slots → sum (bursts update shots x y) ≡ 0
unfolding bursts due_at
none_hurt updates update x y slots shots e holds none =
    sym (all_hurts updates update x y slots shots e holds) ∙ sum_none (hurt_by update x y) slots refl none

pub holds_still : (updates update : ℕ) (slots : List (List Missile)) (shots : List Shot) → update ≡ updates + 1 →
    HoldsShots updates slots shots → All (λ s. s ≡ []) slots → HoldsShots update slots shots
holds_still updates update slots shots e holds none =
    holds_landed updates update slots slots shots e refl (λ i l. rw (none i [] l) refl) holds

-- a missile that bursts later takes nothing, and still flies
hurt_later : (update x y : ℕ) (s : Shot) → update < s.burst → hurt update x y s ≡ 0
unfolding hurt
hurt_later update x y s early = rw (ne_eqb s.burst update (λ e. absurd (omega arith))) refl

quiet_own : (update before x y : ℕ) (ms : List Missile) → update < before → All (λ m. before ≤ m.burst) ms →
    hurt_by update x y ms ≡ 0
unfolding bursts due_at shot_of
quiet_own update before x y [] early h = refl
quiet_own update before x y (m ∷ ms) early h =
    let late : before ≤ m.burst = h 0 m (omega arith) in
    let first = sum_of_bursts update x y (shot_of 0 m) (map (shot_of 0) ms) in
    let here = hurt_later update x y (shot_of 0 m) (omega arith) in
    let rest = quiet_own update before x y ms early (λ k d l. h (suc k) d (omega arith)) in
    omega arith

sum_zero : (f : List Missile → ℕ) (slots : List (List Missile)) → All (λ s. f s ≡ 0) slots → sum (map f slots) ≡ 0
sum_zero f [] h = refl
sum_zero f (s ∷ slots) h =
    let here : f s ≡ 0 = h 0 s (omega arith) in
    let rest = sum_zero f slots (λ k d l. h (suc k) d (omega arith)) in
    let both = sum-cons (f s) (map f slots) in
    omega arith

pub quiet_hurts : (updates update before x y : ℕ) (slots : List (List Missile)) (shots : List Shot) →
    update ≡ updates + 1 → update < before → NoBurstBefore before slots → HoldsShots updates slots shots →
    sum (bursts update shots x y) ≡ 0
quiet_hurts updates update before x y slots shots e early later holds =
    sym (all_hurts updates update x y slots shots e holds) ∙
    sum_zero (hurt_by update x y) slots
    (λ k d l. quiet_own update before x y (get_or slots k d) early (later k d l))

all_later : (update before : ℕ) (ms : List Missile) → update < before → All (λ m. before ≤ m.burst) ms →
    filter (λ m. nat_lt update m.burst) ms ≡ ms
all_later update before [] early h = refl
all_later update before (m ∷ ms) early h =
    let late : before ≤ m.burst = h 0 m (omega arith) in
    let flies : nat_lt update m.burst ≡ true = grind (arith, nat_tests) in
    rw (flies, all_later update before ms early (λ k d l. h (suc k) d (omega arith))) refl

pub holds_quiet : (updates update before : ℕ) (slots : List (List Missile)) (shots : List Shot) → update ≡ updates + 1 →
    update < before → NoBurstBefore before slots → HoldsShots updates slots shots → HoldsShots update slots shots
holds_quiet updates update before slots shots e early later holds =
    holds_landed updates update slots slots shots e refl
    (λ i l. sym (all_later update before (get_or slots i []) early (later i [] l))) holds

-- the least of the bursts so far
pub least_more : (ms : List Missile) (i : ℕ) (m : Missile) (n next : ℕ) → i < length ms → m ≡ get_or ms i m → next ≤ n →
    next ≤ m.burst → All (λ m. n ≤ m.burst) (take i ms) → All (λ m. next ≤ m.burst) (take (i + 1) ms)
least_more ms i m n next l e low here h =
    All-more (λ (m : Missile). next ≤ m.burst) ms i m l (λ k d inside. omega (arith, h k d inside))
    (subst (λ (m : Missile). next ≤ m.burst) e here)

pub sooner : (n next : ℕ) (ms : List Missile) → next ≤ n → All (λ m. n ≤ m.burst) ms → All (λ m. next ≤ m.burst) ms
sooner n next ms low h = λ k d inside. omega (arith, h k d inside)

pub sooner_all : (n next : ℕ) (slots : List (List Missile)) → next ≤ n → NoBurstBefore n slots →
    NoBurstBefore next slots
sooner_all n next slots low h = λ k d l. sooner n next (get_or slots k d) low (h k d l)

-- with nothing in the air none bursts
pub before_none : (n update : ℕ) (slots : List (List Missile)) → slots ≡ replicate n [] → NoBurstBefore update slots
before_none n update slots e = subst (λ (slots : List (List Missile)). NoBurstBefore update slots) (sym e)
    (λ k d l. subst (λ (ms : List Missile). All (λ m. update ≤ m.burst) ms) (sym (at_none n k d l))
    (λ k2 d2 l2. absurd (omega (arith, l2))))
  where
    at_none : (n k : ℕ) (d : List Missile) → k < length {A = List Missile} (replicate n []) →
        get_or {A = List Missile} (replicate n []) k d ≡ []
    at_none zero k d l = absurd (omega (arith, l))
    at_none (suc n) zero d l = refl
    at_none (suc n) (suc k) d l = at_none n k d (omega (arith, l))
