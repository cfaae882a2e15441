-- An update of a still field leaves its robots as they are.
use Rattle.std.proofs.Common.{◌≡◌, ℕ, suc, zero, ◌+◌, ◌<◌, ◌≤◌, min, Bool, true, false, not, nat_lt, inl, inr, ◌&&◌, ◌==◌, List, [], ◌∷◌, ◌++◌, length, take, drop, map, get_or, sum, cond, add-one, refl, sym, ap, subst, ◌∙◌, arith}
use Rattle.std.specs.List.{All, range_with_len}
use Rattle.std.proofs.lemmas.Bool.{eq-eqb, ltb-true}
use Rattle.std.proofs.lemmas.List.{map_more, get_or-map, length-map, take_all}
use Rattle.std.proofs.lemmas.List.Elements.{All-get_or, All-take, All-drop}
use Rattle.std.proofs.lemmas.List.FromFn.{map-range_with_len_more}
use Rattle.arena.specs.Leg.{Leg, place_x, place_y, tried, stopped_by_walls, clamped_at_walls, hits_wall}
use Rattle.arena.specs.Field.{Shot, FieldRobot, Field, damage_of, is_alive, no_robot, robot_at}
use Rattle.arena.specs.Collisions.{AttemptedMove, leg_alone, attempted_move, moves, is_close, is_no_further, collides, collision_count}
use Rattle.arena.specs.Shots.{bursts}
use Rattle.arena.specs.Moved.{moved_robot, moved}
use Rattle.arena.specs.Arena.{Arena, robot_of}
use Rattle.arena.specs.Representing.{RepresentsField}
use Rattle.arena.specs.Ahead.{robot_ahead}
use Rattle.arena.specs.Still.{Stays, IsStill, moved_times}
use Rattle.arena.proofs.Loops.{after_at, after_all}
use Rattle.arena.proofs.SlotLaws.{none_hurt, holds_still}
use Rattle.arena.proofs.Touches.{touches_none}
use Rattle.arena.proofs.MotionLaws.{StandsFree, rests_is}
use Rattle.arena.proofs.RobotUpdates.{ahead_is}
use Rattle.arena.proofs.Represents.{updates}

-- a live robot that stays is at rest
live_rests : (robot : FieldRobot) → Stays (robot_of robot) → is_alive robot ≡ true → StandsFree robot.leg
unfolding is_alive robot_of
live_rests robot (inl dead) live =
    let none : nat_lt 100 100 ≡ true = rw dead at live in
    absurd (omega (arith, ltb-true 100 100 none))
live_rests robot (inr rests) live = rests_is robot.leg rests

driven_is : (leg : Leg) → StandsFree leg → stopped_by_walls leg ≡ leg
unfolding stopped_by_walls clamped_at_walls
driven_is leg r = ap clamped_at_walls r.stands ∙ rw r.free refl

candidate_is : (robot : FieldRobot) → Stays (robot_of robot) → leg_alone robot ≡ robot.leg
unfolding leg_alone
candidate_is robot stays = by_life (is_alive robot) refl
  where
    by_life : (live : Bool) → is_alive robot ≡ live → cond live (stopped_by_walls robot.leg) robot.leg ≡ robot.leg
    by_life true e = driven_is robot.leg (live_rests robot stays e)
    by_life false e = refl

-- so as collisions see it the robot doesn't move
same_is : (n m : ℕ) → n ≡ m → not (n == m) ≡ false
same_is n m e = rw (eq-eqb n m e) refl

moves_not : (robot : FieldRobot) → Stays (robot_of robot) → moves (attempted_move robot) ≡ false
unfolding moves attempted_move
moves_not robot stays =
    let still = candidate_is robot stays in
    rw (
      same_is (place_x (leg_alone robot)) (place_x robot.leg) (ap place_x still),
      same_is (place_y (leg_alone robot)) (place_y robot.leg) (ap place_y still),
    ) refl

-- and it touches none that doesn't move either
blocked : (a b c d : Bool) → (a && b && c && false && d) ≡ false
blocked false b c d = refl
blocked true false c d = refl
blocked true true false d = refl
blocked true true true d = refl

collides_not : (a b : AttemptedMove) → moves a ≡ false → moves b ≡ false → collides a b ≡ false
unfolding collides
collides_not a b p q = rw (p, q) (blocked a.live b.live (is_close a b) (is_no_further a b))

touches_still : (movers : List AttemptedMove) (i : ℕ) → i < length movers → All (λ m. moves m ≡ false) movers →
    collision_count movers i ≡ 0
touches_still movers i inside still =
    let Still : AttemptedMove → Type 0 = λ m. moves m ≡ false in
    let m = get_or movers i (attempted_move no_robot) in
    let here = All-get_or Still movers i (attempted_move no_robot) inside still in
    touches_none movers i
    (λ k d l. collides_not m (get_or (take i movers) k d) here (All-take Still i movers still k d l))
    (λ k d l. collides_not m (get_or (drop (i + 1) movers) k d) here (All-drop Still (i + 1) movers still k d l))

-- the robot after the update
ahead_stays : (robot : FieldRobot) → Stays (robot_of robot) → robot_ahead robot ≡ robot_of robot
unfolding robot_ahead robot_of damage_of
ahead_stays robot stays =
    let free : (is_alive robot && hits_wall (tried robot.leg)) ≡ false = by_life (is_alive robot) refl in
    let same : min (min (sum robot.damages) 100 + 0) 100 ≡ min (sum robot.damages) 100 = omega arith in
    rw (candidate_is robot stays, free, same) refl
  where
    by_life : (live : Bool) → is_alive robot ≡ live → (live && hits_wall (tried robot.leg)) ≡ false
    by_life true e = let r = live_rests robot stays e in ap hits_wall r.stands ∙ r.free
    by_life false e = refl

stays_as_is : (robot : FieldRobot) (update : ℕ) (shots : List Shot) → Stays (robot_of robot) →
    ((x y : ℕ) → sum (bursts update shots x y) ≡ 0) → robot_of robot ≡ robot_of (moved_robot update shots 0 robot)
stays_as_is robot update shots stays none = sym (ahead_stays robot stays) ∙ ahead_is robot update shots none

-- all robots
robot_stays : (robots : List FieldRobot) (i : ℕ) → i < length robots → All Stays (map robot_of robots) →
    Stays (robot_of (get_or robots i no_robot))
robot_stays robots i inside all =
    subst Stays (get_or-map robot_of robots i no_robot (robot_of no_robot) inside)
    (all i (robot_of no_robot) (omega (arith, length-map robots robot_of)))

movers_still : (robots : List FieldRobot) → All Stays (map robot_of robots) →
    All (λ m. moves m ≡ false) (map attempted_move robots)
movers_still robots all k d l =
    let inside : k < length robots = omega (arith, length-map robots attempted_move) in
    rw (get_or-map attempted_move robots k no_robot d inside)
    (moves_not (get_or robots k no_robot) (robot_stays robots k inside all))

each_stays : (f : Field) (i : ℕ) → i < length f.robots → All Stays (map robot_of f.robots) →
    ((x y : ℕ) → sum (bursts (f.updates + 1) f.shots x y) ≡ 0) → robot_of (get_or f.robots i no_robot) ≡ after_at f i
unfolding robot_at
each_stays f i inside all none =
    let untouched =
    touches_still (map attempted_move f.robots) i (omega (arith, length-map f.robots attempted_move))
    (movers_still f.robots all) in
    rw untouched
    (stays_as_is (get_or f.robots i no_robot) (f.updates + 1) f.shots (robot_stays f.robots i inside all) none)

all_stay : (f : Field) → ((i : ℕ) → i < length f.robots → robot_of (get_or f.robots i no_robot) ≡ after_at f i) →
    (n : ℕ) → n ≤ length f.robots → map robot_of (take n f.robots) ≡ map (after_at f) (range_with_len 0 n)
all_stay f each zero h = refl
all_stay f each (suc n) h =
    let Same : ℕ → Type 0 = λ k. map robot_of (take k f.robots) ≡ map (after_at f) (range_with_len 0 k) in
    subst Same (add-one n)
    (map_more robot_of f.robots n no_robot h ∙
    ap (λ bs. bs ++ robot_of (get_or f.robots n no_robot) ∷ []) (all_stay f each n (omega arith)) ∙
    ap (λ b. map (after_at f) (range_with_len 0 n) ++ b ∷ []) (each n h) ∙
    sym (map-range_with_len_more (after_at f) 0 n n (omega arith)))

-- the arena that only counts represents the field after the update
pub only_counts : (g : Arena) (f : Field) → RepresentsField g f → IsStill g.robots g.slots →
    RepresentsField (record g { updates = g.updates + 1 }) (moved f)
only_counts g f s still =
    let stay = subst (λ bs. All Stays bs) s.robots still.stay in
    let none = λ (x y : ℕ). none_hurt f.updates (f.updates + 1) x y g.slots f.shots refl s.missiles still.none_flies in
    let robots =
    ap (map robot_of) (sym (take_all (length f.robots) f.robots (omega arith))) ∙
    all_stay f (λ i l. each_stays f i l stay none) (length f.robots) (omega arith) ∙ after_all f in
    updates g (record g { updates = g.updates + 1 }) f s refl refl (s.robots ∙ robots)
    (holds_still f.updates (f.updates + 1) g.slots f.shots refl s.missiles still.none_flies)

-- and so for some updates
pub only_rests : (g : Arena) (f : Field) (n : ℕ) → RepresentsField g f → IsStill g.robots g.slots →
    RepresentsField (record g { updates = g.updates + n }) (moved_times n f)
unfolding moved_times
only_rests g f zero s still =
    let none : g.updates + 0 ≡ g.updates = omega arith in
    rw none s
only_rests g f (suc n) s still =
    let more : g.updates + suc n ≡ g.updates + n + 1 = omega arith in
    rw more (only_counts (record g { updates = g.updates + n }) (moved_times n f) (only_rests g f n s still) still)
