-- Steps of the loops that write robots in place.
use Rattle.std.proofs.Common.{◌≡◌, ◌⊎◌, inl, inr, ℕ, ◌+◌, ◌<◌, ◌≤◌, List, length, map, sum, get_or, set, sym, ap, subst, ◌∙◌, arith}
use Rattle.std.specs.List.{range_with_len}
use Rattle.std.proofs.lemmas.Bool.{cases_lt}
use Rattle.std.proofs.lemmas.List.{get_or-set_same, get_or-set_other, get_or-map, length-map, ext_get_or}
use Rattle.std.proofs.lemmas.List.FromFn.{get_or-range_with_len, length-range_with_len}
use Rattle.arena.specs.Field.{FieldRobot, Field, no_robot, robot_at}
use Rattle.arena.specs.Collisions.{attempted_move, collision_count}
use Rattle.arena.specs.Shots.{bursts}
use Rattle.arena.specs.Moved.{moved}
use Rattle.arena.specs.Arena.{Robot, robot_of}
use Rattle.arena.specs.Ahead.{robot_ahead}
use Rattle.arena.proofs.Loops.{after_at, after_all}
use Rattle.arena.proofs.RobotUpdates.{ahead_is}

-- what is read past the last robot
abbrev pub none : Robot
none = robot_of no_robot

-- from what is true of the robots so far to one more
pub one_more : (P : ℕ → Robot → Type 0) (now : List Robot) (i : ℕ) (b : Robot) → i < length now →
    ((k : ℕ) → k < i → P k (get_or now k none)) → P i b →
    (k : ℕ) → k < i + 1 → P k (get_or (set now i b) k none)
one_more P now i b inside done here k l = by_place (cases_lt k i)
  where
    by_place : ((k < i) ⊎ (i ≤ k)) → P k (get_or (set now i b) k none)
    by_place (inl before) =
        subst (P k) (sym (get_or-set_other now i k b none (λ e. absurd (omega arith)))) (done k before)
    by_place (inr not) =
        let same : i ≡ k = omega arith in
        subst (λ j. P j (get_or (set now i b) j none)) same
        (subst (P i) (sym (get_or-set_same now i b none inside)) here)

-- and the others stay
pub others_stay : (now old : List Robot) (i : ℕ) (b : Robot) →
    ((k : ℕ) → i ≤ k → get_or now k none ≡ get_or old k none) →
    (k : ℕ) → i + 1 ≤ k → get_or (set now i b) k none ≡ get_or old k none
others_stay now old i b rest k l = get_or-set_other now i k b none (λ e. absurd (omega arith)) ∙ rest k (omega arith)

-- at the end all are mapped
pub all_mapped : (f : FieldRobot → Robot) (rs : List FieldRobot) (now : List Robot) → length now ≡ length rs →
    ((k : ℕ) → k < length rs → get_or now k none ≡ f (get_or rs k no_robot)) → now ≡ map f rs
all_mapped f rs now size each =
    ext_get_or none now (map f rs) (size ∙ sym (length-map rs f))
    (λ k l. let inside : k < length rs = omega (arith, size) in each k inside ∙
    sym (get_or-map f rs k no_robot none inside))

-- each where it is after the update
pub all_after : (f : Field) (now : List Robot) → length now ≡ length f.robots →
    ((k : ℕ) → k < length f.robots → get_or now k none ≡ after_at f k) → now ≡ map robot_of (moved f).robots
all_after f now size each =
    let n = length f.robots in
    let count : length (range_with_len 0 n) ≡ n = length-range_with_len 0 n in
    ext_get_or none now (map (after_at f) (range_with_len 0 n))
    (size ∙ sym count ∙ sym (length-map (range_with_len 0 n) (after_at f)))
    (λ k l.
    let inside : k < n = omega (arith, l, size) in
    let at : get_or (range_with_len 0 n) k 0 ≡ k = omega (arith, get_or-range_with_len 0 n k 0 inside) in
    each k inside ∙
    sym (get_or-map (after_at f) (range_with_len 0 n) k 0 none (omega (arith, inside, count)) ∙ ap (after_at f) at))
    ∙ after_all f

-- if nothing bursts and none touches another, each is where it drove on its own
pub ahead_of_all : (f : Field) → ((i : ℕ) → i < length f.robots → collision_count (map attempted_move f.robots) i ≡ 0) →
    ((x y : ℕ) → sum (bursts (f.updates + 1) f.shots x y) ≡ 0) →
    map robot_ahead f.robots ≡ map robot_of (moved f).robots
unfolding robot_at
ahead_of_all f untouched quiet =
    all_after f (map robot_ahead f.robots) (length-map f.robots robot_ahead)
    (λ k l. get_or-map robot_ahead f.robots k no_robot none l ∙
    rw (untouched k l) (ahead_is (get_or f.robots k no_robot) (f.updates + 1) f.shots quiet))
