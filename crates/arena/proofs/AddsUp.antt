-- The damage adds up: what walls, other robots and bursts take is what an update takes.
use Rattle.std.proofs.Common.{◌≡◌, ℕ, zero, suc, ◌+◌, ◌*◌, ◌<◌, Bool, true, false, not, ◌&&◌, ◌==◌, cond, min, List, [], ◌∷◌, ◌++◌, length, map, filter, take, drop, sum, get_or, refl, sym, ap, ◌∙◌, arith}
use Rattle.std.specs.List.{All, count_by, range_with_len}
use Rattle.std.proofs.lemmas.Bool.Decides.{nat_tests}
use Rattle.std.proofs.lemmas.List.{get_or-map, length-map}
use Rattle.std.proofs.lemmas.List.FromFn.{get_or-map-range_with_len}
use Rattle.std.proofs.lemmas.List.Sums.{length-filter}
use Rattle.arena.specs.Leg.{place_x, place_y, tried, hits_wall}
use Rattle.arena.specs.Field.{Shot, FieldRobot, Field, damage_of, is_alive, no_robot, robot_at, is_live_at}
use Rattle.arena.specs.Collisions.{attempted_move, collides, square, others, collision_count}
use Rattle.arena.specs.Shots.{ring, bursts}
use Rattle.arena.specs.Moved.{leg_after, moved_robot, moved}
use Rattle.arena.specs.Due.{burst_damage}
use Rattle.arena.specs.Outlook.{Burst, due, meets_wall, collides_with, next_leg, taken_by, damage_taken, AddsUp}
use Rattle.arena.proofs.SlotLaws.{sum-cons, totals, totals_same, both_more}
use Rattle.arena.proofs.DueBursts.{harm_like_shots}
use Rattle.arena.proofs.RobotUpdates.{dead_is, worn_is}

-- a robot after the update
moved_at : (f : Field) (i : ℕ) → i < length f.robots →
    robot_at (moved f) i ≡
    moved_robot (f.updates + 1) f.shots (collision_count (map attempted_move f.robots) i) (robot_at f i)
unfolding robot_at moved
moved_at f i inside =
    get_or-map-range_with_len
    (λ k. moved_robot (f.updates + 1) f.shots (collision_count (map attempted_move f.robots) k)
    (get_or f.robots k no_robot)) 0
    (length f.robots) i i no_robot inside (omega arith)

live_takes : (r : FieldRobot) (update : ℕ) (shots : List Shot) (touched : ℕ) → is_alive r ≡ true →
    damage_of (moved_robot update shots touched r) ≡
    min
    (damage_of r + cond (hits_wall (tried r.leg)) 2 0 + 2 * touched +
    sum (bursts update shots (place_x (leg_after r.leg touched)) (place_y (leg_after r.leg touched)))) 100
unfolding moved_robot damage_of
live_takes r update shots touched live =
    rw live
    (worn_is r.damages r.leg touched
    (bursts update shots (place_x (leg_after r.leg touched)) (place_y (leg_after r.leg touched))))

-- counts, number by number
with_first : {X : Type 0} (b : Bool) (x : X) (xs : List X) → length (cond b (x ∷ xs) xs) ≡ cond b 1 0 + length xs
with_first true x xs = omega arith
with_first false x xs = omega arith

count_range : (p : ℕ → Bool) (a n : ℕ) → length (filter p (range_with_len a n)) ≡ totals (λ k. cond (p (a + k)) 1 0) n
count_range p a zero = refl
count_range p a (suc n) =
    let first : length (filter p (range_with_len a (suc n))) ≡
    cond {A = ℕ} (p a) 1 0 + length (filter p (range_with_len (a + 1) n)) =
    with_first (p a) a (filter p (range_with_len (a + 1) n)) in
    let same : a ≡ a + 0 = omega arith in
    let here = ap (λ (j : ℕ). cond {A = ℕ} (p j) 1 0) same in
    let rest = count_range p (a + 1) n in
    let on =
    totals_same (λ k. cond (p (a + 1 + k)) 1 0) (λ k. cond (p (a + suc k)) 1 0) n
    (λ k l. let next : a + 1 + k ≡ a + suc k = omega arith in ap (λ (j : ℕ). cond {A = ℕ} (p j) 1 0) next) in
    omega (arith, first, here, rest, on)

count_all : {X : Type 0} (p : X → Bool) (xs : List X) (d : X) →
    length (filter p xs) ≡ totals (λ k. cond (p (get_or xs k d)) 1 0) (length xs)
count_all p [] d = refl
count_all p (x ∷ xs) d =
    let first = with_first (p x) x (filter p xs) in
    let rest = count_all p xs d in
    omega arith

-- all but the one with an index
is_other : (k : ℕ) → (0 == suc k) ≡ false
is_other k = grind (arith, nat_tests)

is_first : (k : ℕ) → (suc k == 0) ≡ false
is_first k = grind (arith, nat_tests)

others_none : {X : Type 0} (i : ℕ) → others {A = X} [] i ≡ []
unfolding others
others_none zero = refl
others_none {X = X} (suc i) = let on : suc i + 1 ≡ suc (suc i) = omega arith in ap (λ (n : ℕ). drop {A = X} n []) on

others_rest : {X : Type 0} (x : X) (xs : List X) (i : ℕ) → others (x ∷ xs) (suc i) ≡ x ∷ others xs i
unfolding others
others_rest x xs i =
    let on : suc i + 1 ≡ suc (i + 1) = omega arith in ap (λ (n : ℕ). x ∷ (take i xs ++ drop n (x ∷ xs))) on

others_first : {X : Type 0} (x : X) (xs : List X) → others (x ∷ xs) 0 ≡ xs
unfolding others
others_first x xs = refl

count_others : {X : Type 0} (p : X → Bool) (xs : List X) (d : X) (i : ℕ) →
    length (filter p (others xs i)) ≡ totals (λ k. cond (not (i == k) && p (get_or xs k d)) 1 0) (length xs)
count_others p [] d i = ap (λ l. length (filter p l)) (others_none i)
count_others p (x ∷ xs) d zero =
    let first = ap (λ l. length (filter p l)) (others_first x xs) in
    let rest = count_all p xs d in
    let on =
    totals_same (λ k. cond (p (get_or xs k d)) 1 0) (λ k. cond (not (0 == suc k) && p (get_or xs k d)) 1 0)
    (length xs) (λ k l. ap (λ b. cond {A = ℕ} (not b && p (get_or xs k d)) 1 0) (sym (is_other k))) in
    let whole : length (filter p (others (x ∷ xs) 0)) ≡
    0 + totals (λ k. cond (not (0 == suc k) && p (get_or xs k d)) 1 0) (length xs) =
    omega (arith, first, rest, on) in
    whole
count_others p (x ∷ xs) d (suc i) =
    let first = ap (λ l. length (filter p l)) (others_rest x xs i) ∙ with_first (p x) x (filter p (others xs i)) in
    let here = ap (λ b. cond {A = ℕ} (not b && p x) 1 0) (sym (is_first i)) in
    let rest = count_others p xs d i in
    let on =
    totals_same (λ k. cond (not (i == k) && p (get_or xs k d)) 1 0)
    (λ k. cond (not (suc i == suc k) && p (get_or xs k d)) 1 0) (length xs)
    (λ k l. ap (λ b. cond {A = ℕ} (not b && p (get_or xs k d)) 1 0) (sym (both_more i k))) in
    omega (arith, first, here, rest, on)

-- the robots that one touches are those that it meets
mover_at : (f : Field) (k : ℕ) → k < length f.robots →
    get_or (map attempted_move f.robots) k (attempted_move no_robot) ≡ attempted_move (robot_at f k)
unfolding robot_at
mover_at f k inside = get_or-map attempted_move f.robots k no_robot (attempted_move no_robot) inside

touches_are_met : (f : Field) (i : ℕ) → i < length f.robots →
    collision_count (map attempted_move f.robots) i ≡ count_by (collides_with f i) (range_with_len 0 (length f.robots))
unfolding collision_count collides_with
touches_are_met f i inside =
    let ms = map attempted_move f.robots in
    let d = attempted_move no_robot in
    let p = collides (get_or ms i d) in
    let n = length f.robots in
    sym (length-filter p (others ms i)) ∙ count_others p ms d i ∙
    ap (totals (λ k. cond (not (i == k) && p (get_or ms k d)) 1 0)) (length-map f.robots attempted_move)
    ∙ totals_same (λ k. cond (not (i == k) && p (get_or ms k d)) 1 0) (λ k. cond (collides_with f i (0 + k)) 1 0) n
    (λ k l. ap (λ m. cond (not (i == k) && collides (get_or ms i d) m) 1 0) (mover_at f k l) ∙
    ap (λ m. cond (not (i == k) && collides m (attempted_move (robot_at f k))) 1 0) (mover_at f i inside) ∙
    ap (λ j. cond (collides_with f i j) 1 0) (omega arith))
    ∙ sym (count_range (collides_with f i) 0 n) ∙ length-filter (collides_with f i) (range_with_len 0 n)

-- the bursts that are due take what all shots take
due_takes : (f : Field) (x y : ℕ) → All (λ s. s.owner < length f.robots) f.shots →
    sum (map (λ b. ring (square x y b.at.x b.at.y)) (due f)) ≡ sum (bursts (f.updates + 1) f.shots x y)
unfolding due burst_damage
due_takes f x y owned = harm_like_shots f.updates (f.updates + 1) (length f.robots) f.shots refl owned x y

taken_are : (f : Field) (i : ℕ) (bs : List Burst) → is_live_at f i ≡ true →
    map (taken_by f i) bs ≡ map (λ b. ring (square (place_x (next_leg f i)) (place_y (next_leg f i)) b.at.x b.at.y)) bs
unfolding taken_by
taken_are f i [] live = refl
taken_are f i (b ∷ bs) live =
    rw live
    (ap (λ l. ring (square (place_x (next_leg f i)) (place_y (next_leg f i)) b.at.x b.at.y) ∷ l)
    (taken_are f i bs live))

live_adds_up : (f : Field) (i : ℕ) → i < length f.robots → All (λ s. s.owner < length f.robots) f.shots →
    is_live_at f i ≡ true → damage_of (robot_at (moved f) i) ≡ min (damage_of (robot_at f i) + damage_taken f i) 100
unfolding is_live_at damage_taken meets_wall next_leg
live_adds_up f i inside owned live =
    let r = robot_at f i in
    let touched = collision_count (map attempted_move f.robots) i in
    let leg = leg_after r.leg touched in
    let after = ap damage_of (moved_at f i inside) ∙ live_takes r (f.updates + 1) f.shots touched live in
    let wall : cond {A = ℕ} (is_alive r && hits_wall (tried r.leg)) 2 0 ≡ cond {A = ℕ} (hits_wall (tried r.leg)) 2 0 =
    rw live refl in
    let met = touches_are_met f i inside in
    let burst = ap sum (taken_are f i (due f) live) ∙ due_takes f (place_x leg) (place_y leg) owned in
    omega (arith, after, wall, met, burst)

-- a dead robot takes nothing
none_met : (f : Field) (i : ℕ) (ks : List ℕ) → is_live_at f i ≡ false → length (filter (collides_with f i) ks) ≡ 0
unfolding collides_with collides attempted_move is_live_at
none_met f i [] dead = refl
none_met f i (k ∷ ks) dead =
    let no : collides_with f i k ≡ false = rw dead (none_of (not (i == k))) in
    rw no (none_met f i ks dead)
  where
    none_of : (b : Bool) → (b && false) ≡ false
    none_of true = refl
    none_of false = refl

none_taken : (f : Field) (i : ℕ) (bs : List Burst) → is_live_at f i ≡ false → sum (map (taken_by f i) bs) ≡ 0
unfolding taken_by
none_taken f i [] dead = refl
none_taken f i (b ∷ bs) dead =
    let first : taken_by f i b ≡ 0 = rw dead refl in
    let rest = none_taken f i bs dead in
    let both = sum-cons (taken_by f i b) (map (taken_by f i) bs) in
    omega arith

dead_adds_up : (f : Field) (i : ℕ) → i < length f.robots → is_live_at f i ≡ false →
    damage_of (robot_at (moved f) i) ≡ min (damage_of (robot_at f i) + damage_taken f i) 100
unfolding is_live_at damage_taken meets_wall damage_of
dead_adds_up f i inside dead =
    let r = robot_at f i in
    let ks = range_with_len 0 (length f.robots) in
    let after =
    ap damage_of
    (moved_at f i inside ∙
    sym (dead_is r (f.updates + 1) f.shots (collision_count (map attempted_move f.robots) i) dead))
    in
    let wall : cond {A = ℕ} (is_alive r && hits_wall (tried r.leg)) 2 0 ≡ 0 = rw dead refl in
    let met : count_by (collides_with f i) ks ≡ 0 = sym (length-filter (collides_with f i) ks) ∙ none_met f i ks dead in
    let burst = none_taken f i (due f) dead in
    omega (arith, after, wall, met, burst)

pub adds_up : (f : Field) → All (λ s. s.owner < length f.robots) f.shots → AddsUp f
adds_up f owned i inside = by_life (is_live_at f i) refl
  where
    by_life : (live : Bool) → is_live_at f i ≡ live →
        damage_of (robot_at (moved f) i) ≡ min (damage_of (robot_at f i) + damage_taken f i) 100
    by_life true e = live_adds_up f i inside owned e
    by_life false e = dead_adds_up f i inside e
