-- What an update makes of one robot.
use Rattle.std.proofs.Common.{◌≡◌, ℕ, ◌+◌, ◌*◌, ◌≤◌, ◌++◌, [], ◌∷◌, List, replicate, min, Bool, true, false, cond, ◌&&◌, refl, sym, ap, ◌∙◌, arith, nat_lt}
use Rattle.std.specs.List.{sum}
use Rattle.std.proofs.lemmas.Bool.Decides.{nat_tests}
use Rattle.std.proofs.lemmas.List.Sums.{sum_by-append}
use Rattle.std.proofs.lemmas.List.Folds.{sum_by-replicate}
use Rattle.arena.specs.Leg.{Leg, place_x, place_y, tried, stopped_by_walls, hits_wall}
use Rattle.arena.specs.Field.{Shot, FieldRobot, damage_of, is_alive}
use Rattle.arena.specs.Collisions.{leg_alone}
use Rattle.arena.specs.Shots.{bursts}
use Rattle.arena.specs.Moved.{leg_after, knock_damages, moved_robot}
use Rattle.arena.specs.Arena.{Motion, motion_of, Robot, robot_of}
use Rattle.arena.specs.Ahead.{robot_ahead}

-- a dead robot stays as it is
pub dead_is : (robot : FieldRobot) (update : ℕ) (shots : List Shot) (touched : ℕ) → is_alive robot ≡ false →
    robot ≡ moved_robot update shots touched robot
unfolding moved_robot
dead_is robot update shots touched h = rw h refl

-- the damage counts all that hurts, up to 100
sum_knocks : (leg : Leg) (touched : ℕ) →
    sum (knock_damages leg touched) ≡ cond (hits_wall (tried leg)) 2 0 + 2 * touched
unfolding knock_damages
sum_knocks leg touched = by_wall (hits_wall (tried leg))
  where
    by_wall : (w : Bool) → sum (cond w (2 ∷ []) [] ++ replicate touched 2) ≡ cond w 2 0 + 2 * touched
    by_wall true =
        omega (
          arith,
          sum_by-append (λ (x : ℕ). x) (2 ∷ []) (replicate touched 2),
          sum_by-replicate (λ (x : ℕ). x) touched 2,
        )
    by_wall false = omega (arith, sum_by-replicate (λ (x : ℕ). x) touched 2)

pub worn_is : (hurts : List ℕ) (leg : Leg) (touched : ℕ) (burst : List ℕ) →
    min (sum (hurts ++ knock_damages leg touched ++ burst)) 100 ≡
    min (min (sum hurts) 100 + cond (hits_wall (tried leg)) 2 0 + 2 * touched + sum burst) 100
worn_is hurts leg touched burst =
    omega (
      arith,
      sum_by-append (λ (x : ℕ). x) (hurts ++ knock_damages leg touched) burst,
      sum_by-append (λ (x : ℕ). x) hurts (knock_damages leg touched),
      sum_knocks leg touched,
    )

-- a live robot gets its new motion and its new damage, of which walls took theirs first
pub alive_is : (robot : FieldRobot) (motion : Motion) (update : ℕ) (shots : List Shot) (touched walled burst damage : ℕ)
    →
    is_alive robot ≡ true → motion ≡ motion_of (leg_after robot.leg touched) →
    walled ≡ min (damage_of robot + cond (is_alive robot && hits_wall (tried robot.leg)) 2 0) 100 →
    burst ≡ sum (bursts update shots motion.x motion.y) →
    damage ≡ min (walled + 2 * touched + burst) 100 →
    record { motion = motion; damage = damage } ≡ robot_of (moved_robot update shots touched robot)
unfolding moved_robot robot_of damage_of motion_of
alive_is robot motion update shots touched walled burst damage live m w b d =
    let leg = leg_after robot.leg touched in
    let wall : walled ≡ min (damage_of robot + cond (hits_wall (tried robot.leg)) 2 0) 100 = rw live at w in
    let burst_is : burst ≡ sum (bursts update shots (place_x leg) (place_y leg)) =
    b ∙ ap (λ (t : Motion). sum (bursts update shots t.x t.y)) m in
    let sum_is = worn_is robot.damages robot.leg touched (bursts update shots (place_x leg) (place_y leg)) in
    let damage_is : damage ≡
    min (sum (robot.damages ++ knock_damages robot.leg touched ++ bursts update shots (place_x leg) (place_y leg))) 100
    =
    omega (arith, d, wall, burst_is, sum_is) in
    rw (live, m, damage_is) refl

-- a dead robot stays where it is
pub dead_stays : (robot : FieldRobot) → is_alive robot ≡ false → robot_ahead robot ≡ robot_of robot
unfolding robot_ahead leg_alone robot_of damage_of
dead_stays robot dead =
    let same : min (min (sum robot.damages) 100 + 0) 100 ≡ min (sum robot.damages) 100 = omega arith in
    rw (dead, same) refl

-- one that touches none, with no burst, is where it drove on its own
live_is : (robot : FieldRobot) (update : ℕ) (shots : List Shot) → ((x y : ℕ) → sum (bursts update shots x y) ≡ 0) →
    is_alive robot ≡ true → robot_ahead robot ≡ robot_of (moved_robot update shots 0 robot)
unfolding robot_ahead leg_alone leg_after
live_is robot update shots none live =
    let t = motion_of (stopped_by_walls robot.leg) in
    let d = min (damage_of robot + cond (is_alive robot && hits_wall (tried robot.leg)) 2 0) 100 in
    let drove : leg_alone robot ≡ stopped_by_walls robot.leg = rw live refl in
    rw drove (alive_is robot t update shots 0 d 0 d live refl refl (sym (none t.x t.y)) (omega arith))

pub ahead_is : (robot : FieldRobot) (update : ℕ) (shots : List Shot) → ((x y : ℕ) → sum (bursts update shots x y) ≡ 0) →
    robot_ahead robot ≡ robot_of (moved_robot update shots 0 robot)
ahead_is robot update shots none = by_life (is_alive robot) refl
  where
    by_life : (live : Bool) → is_alive robot ≡ live → robot_ahead robot ≡ robot_of (moved_robot update shots 0 robot)
    by_life true e = live_is robot update shots none e
    by_life false e = dead_stays robot e ∙ ap robot_of (dead_is robot update shots 0 e)

-- a live robot that has moved on, and was perhaps stopped by a wall
pub drove : (robot : FieldRobot) (motion : Motion) (walled : Bool) (damage : ℕ) → is_alive robot ≡ true →
    motion ≡ motion_of (stopped_by_walls robot.leg) → walled ≡ hits_wall (tried robot.leg) →
    damage ≡ min (damage_of robot + cond walled 2 0) 100 →
    record { motion = motion; damage = damage } ≡ robot_ahead robot
unfolding robot_ahead leg_alone
drove robot motion walled damage live t w d = rw (live, sym w, t, d) refl

-- whether a robot that is kept lives
pub life_is : {b : Robot} {r t : Bool} (robot : FieldRobot) → r ≡ nat_lt b.damage 100 → b ≡ robot_of robot → r ≡ t →
    is_alive robot ≡ t
unfolding robot_of is_alive
life_is robot is e was = sym (is ∙ ap (λ (b : Robot). nat_lt b.damage 100) e) ∙ was

pub goes_ahead : {kept : Robot} {motion : Motion} {hits walled : Bool} {damage : ℕ} (robot : FieldRobot) →
    kept ≡ robot_of robot → is_alive robot ≡ true →
    ((leg : Leg) → kept.motion ≡ motion_of leg → motion ≡ motion_of (stopped_by_walls leg)) →
    ((leg : Leg) → kept.motion ≡ motion_of leg → hits ≡ hits_wall (tried leg)) → hits ≡ walled →
    damage ≡ min (kept.damage + cond walled 2 0) 100 → record { motion = motion; damage = damage } ≡ robot_ahead robot
unfolding robot_of damage_of
goes_ahead {kept} {motion} {hits} {walled} {damage} robot e live moves strikes is hurt =
    let from = ap (λ (b : Robot). b.motion) e in
    drove robot motion walled damage live (moves robot.leg from) (sym is ∙ strikes robot.leg from)
    (hurt ∙ ap (λ (b : Robot). min (b.damage + cond walled 2 0) 100) e)

-- a robot that has moved on, touches none, and is hurt by bursts
live_hurt : (robot : FieldRobot) (update : ℕ) (shots : List Shot) (burst : ℕ) → is_alive robot ≡ true →
    burst ≡ sum (bursts update shots (robot_ahead robot).motion.x (robot_ahead robot).motion.y) →
    record (robot_ahead robot) { damage = min ((robot_ahead robot).damage + burst) 100 } ≡
    robot_of (moved_robot update shots 0 robot)
unfolding robot_ahead leg_alone leg_after
live_hurt robot update shots burst live b =
    let t = motion_of (stopped_by_walls robot.leg) in
    let d = min (damage_of robot + cond (is_alive robot && hits_wall (tried robot.leg)) 2 0) 100 in
    let drives : leg_alone robot ≡ stopped_by_walls robot.leg = rw live refl in
    let here : burst ≡ sum (bursts update shots t.x t.y) =
    b ∙ ap (λ (l : Leg). sum (bursts update shots (motion_of l).x (motion_of l).y)) drives in
    rw drives (alive_is robot t update shots 0 d burst (min (d + burst) 100) live refl refl here (omega arith))

dead_hurt : (robot : FieldRobot) (burst : ℕ) → is_alive robot ≡ false →
    record (robot_ahead robot) { damage = min ((robot_ahead robot).damage + burst) 100 } ≡ robot_of robot
unfolding robot_ahead leg_alone robot_of damage_of is_alive
dead_hurt robot burst dead =
    let whole : 100 ≤ min (sum robot.damages) 100 = grind (arith, nat_tests, dead) in
    let same : min (min (min (sum robot.damages) 100 + 0) 100 + burst) 100 ≡ min (sum robot.damages) 100 =
    omega arith in
    rw (dead, same) refl

pub hurt_is : (robot : FieldRobot) (update : ℕ) (shots : List Shot) (burst : ℕ) →
    burst ≡ sum (bursts update shots (robot_ahead robot).motion.x (robot_ahead robot).motion.y) →
    record (robot_ahead robot) { damage = min ((robot_ahead robot).damage + burst) 100 } ≡
    robot_of (moved_robot update shots 0 robot)
hurt_is robot update shots burst b = by_life (is_alive robot) refl
  where
    by_life : (live : Bool) → is_alive robot ≡ live →
        record (robot_ahead robot) { damage = min ((robot_ahead robot).damage + burst) 100 } ≡
        robot_of (moved_robot update shots 0 robot)
    by_life true e = live_hurt robot update shots burst e b
    by_life false e = dead_hurt robot burst e ∙ ap robot_of (dead_is robot update shots 0 e)

pub hurt_at : (robot : FieldRobot) (body : Robot) (update : ℕ) (shots : List Shot) (burst : ℕ) →
    body ≡ robot_ahead robot →
    burst ≡ sum (bursts update shots body.motion.x body.motion.y) →
    record body { damage = min (body.damage + burst) 100 } ≡ robot_of (moved_robot update shots 0 robot)
hurt_at robot body update shots burst e b =
    let there : burst ≡ sum (bursts update shots (robot_ahead robot).motion.x (robot_ahead robot).motion.y) =
    b ∙ ap (λ (x : Robot). sum (bursts update shots x.motion.x x.motion.y)) e in
    ap (λ (x : Robot). record x { damage = min (x.damage + burst) 100 }) e ∙ hurt_is robot update shots burst there
