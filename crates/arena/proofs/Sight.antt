-- The ways from a robot to the others, and the arc of a scan.
use Rattle.std.proofs.Common.{◌≡◌, ℕ, unsigned_abs, ℤ, pos, ◌-ℤ◌, Bool, true, false, ◌&&◌, ◌||◌, ◌==◌, nat_le, min, cond, refl, sym, ◌∙◌, arith}
use Rattle.std.specs.Int.{abs_diff}
use Rattle.std.specs.Ordering.{int_eq}
use Rattle.std.proofs.lemmas.Int.{ints}
use Rattle.std.proofs.lemmas.Bool.Decides.{Decides-int_eq, Decides-eqb, Decides-like, same_from_decides}
use Rattle.arith.specs.Degree.{apart}
use Rattle.arith.specs.Bearing.{bearing_of}
use Rattle.arena.specs.Field.{FieldRobot, is_alive, metres_x, metres_y}
use Rattle.arena.specs.Collisions.{square}
use Rattle.arena.specs.Scan.{east_to, north_to, in_arc, sees}
use Rattle.arena.specs.Nearer.{arc_contains, squared_length, square_to}

either : (b : Bool) → (b || true) ≡ true
either true = refl
either false = refl

neither : (b : Bool) → (b && false) ≡ false
neither true = refl
neither false = refl

-- a way that leads nowhere lies in every arc, and for the others the bearing decides
pub leads_nowhere : (east north : ℤ) (degree resolution : ℕ) → east ≡ pos 0 → north ≡ pos 0 →
    arc_contains east north degree resolution ≡ true
unfolding arc_contains
leads_nowhere east north degree resolution x y = rw ((Decides-int_eq _ _).1 x, (Decides-int_eq _ _).1 y) refl

pub leads_somewhere : (east north : ℤ) (degree resolution : ℕ) → (east ≡ pos 0 → north ≡ pos 0 → ⊥) →
    arc_contains east north degree resolution ≡ nat_le (apart (bearing_of east north) degree) resolution
unfolding arc_contains
leads_somewhere east north degree resolution elsewhere =
    by_place (int_eq east (pos 0)) (int_eq north (pos 0)) refl refl
  where
    within : Bool
    within = nat_le (apart (bearing_of east north) degree) resolution

    by_place : (p q : Bool) → int_eq east (pos 0) ≡ p → int_eq north (pos 0) ≡ q → ((p && q) || within) ≡ within
    by_place true true x y = absurd (elsewhere ((Decides-int_eq _ _).0 x) ((Decides-int_eq _ _).0 y))
    by_place true false x y = refl
    by_place false q x y = refl

-- so one that lies deep in an arc leads into it
pub leads_deep : (east north : ℤ) (degree resolution : ℕ) →
    nat_le (apart (bearing_of east north) degree) resolution ≡ true → arc_contains east north degree resolution ≡ true
unfolding arc_contains
leads_deep east north degree resolution deep =
    rw deep (either (int_eq east (pos 0) && int_eq north (pos 0)))

-- a robot is seen if it lives and the way to it leads into the arc
same_place : (a b : ℕ) → (b == a) ≡ int_eq (pos b -ℤ pos a) (pos 0)
same_place a b =
    same_from_decides _ _ (Decides-eqb b a)
    (Decides-like _ (λ e. omega (arith, ints, e)) (λ e. omega (arith, ints, e))
    (Decides-int_eq (pos b -ℤ pos a) (pos 0)))

sees_by_way : (a b : FieldRobot) (degree resolution : ℕ) →
    sees a degree resolution b ≡ (is_alive b && arc_contains (east_to a b) (north_to a b) degree resolution)
unfolding sees in_arc east_to north_to arc_contains
sees_by_way a b degree resolution =
    rw (same_place (metres_x a) (metres_x b), same_place (metres_y a) (metres_y b)) refl

pub dead_unseen : (a : FieldRobot) (degree resolution : ℕ) (b : FieldRobot) → is_alive b ≡ false →
    sees a degree resolution b ≡ false
dead_unseen a degree resolution b dead = sees_by_way a b degree resolution ∙ rw dead refl

pub beside_unseen : (a : FieldRobot) (degree resolution : ℕ) (b : FieldRobot) →
    arc_contains (east_to a b) (north_to a b) degree resolution ≡ false → sees a degree resolution b ≡ false
beside_unseen a degree resolution b beside = sees_by_way a b degree resolution ∙ rw beside (neither (is_alive b))

pub seen_leads : (a b : FieldRobot) (degree resolution : ℕ) → sees a degree resolution b ≡ true →
    arc_contains (east_to a b) (north_to a b) degree resolution ≡ true
seen_leads a b degree resolution seen = second (is_alive b) _ (sym (sees_by_way a b degree resolution) ∙ seen)
  where
    second : (p q : Bool) → (p && q) ≡ true → q ≡ true
    second true q e = e
    second false q e = cc

way_length : (a b : ℕ) → unsigned_abs (pos b -ℤ pos a) ≡ abs_diff a b
way_length a b = omega (arith, ints)

square_by_way : (a b : FieldRobot) → square_to a b ≡ squared_length (east_to a b) (north_to a b)
unfolding square_to square squared_length east_to north_to
square_by_way a b = rw (way_length (metres_x a) (metres_x b), way_length (metres_y a) (metres_y b)) refl

pub seen_so_far : (a : FieldRobot) (degree resolution : ℕ) (b : FieldRobot) (so_far : ℕ) → is_alive b ≡ true →
    cond (sees a degree resolution b) (min so_far (square_to a b)) so_far ≡
    cond (arc_contains (east_to a b) (north_to a b) degree resolution)
    (min so_far (squared_length (east_to a b) (north_to a b))) so_far
seen_so_far a degree resolution b so_far live =
    rw (sees_by_way a b degree resolution, live, square_by_way a b) refl
