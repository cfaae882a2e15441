-- What an arena represents, after each call.
use Rattle.std.proofs.Common.{◌≡◌, ◌⊎◌, ℕ, ◌+◌, ◌<◌, ◌≤◌, true, false, List, [], ◌∷◌, ◌++◌, length, drop, map, get_or, set, nat_lt, pos, cond, refl, sym, ap, subst, inl, inr, ◌∙◌, arith}
use Rattle.std.specs.List.{count_by, fold, refill}
use Rattle.std.proofs.lemmas.List.{length-map, get_or-map, get_or_past, get_or-set_same, map-set, take_at, length-set}
use Rattle.std.proofs.lemmas.Bool.{cases_lt, ltb-true}
use Rattle.arena.specs.Leg.{place_x, place_y}
use Rattle.arena.specs.Field.{Shot, FieldRobot, Field, damage_of, is_alive, no_robot, robot_at}
use Rattle.arena.specs.Shots.{aimed_x, aimed_y, flight, shot, in_air}
use Rattle.arena.specs.Moved.{moved}
use Rattle.arena.specs.Answer.{fired, with_wanted, field_with_wanted}
use Rattle.arena.specs.Arena.{Robot, Missile, Arena, robot_of, shot_of, is_live}
use Rattle.arena.specs.Representing.{HoldsShots, RepresentsField}

-- a list that was lent and written in place
pub refill_is : {X : Type 0} (xs ws : List X) → length ws ≡ length xs → refill (length xs) xs ws ≡ ws
refill_is xs ws e = take_at ws (drop (length ws) xs) (length xs) e

pub refill_same : {X : Type 0} {xs ys ws : List X} → length ws ≡ length ys → ys ≡ xs → refill (length xs) xs ws ≡ ws
refill_same {X} {xs} {ys} {ws} size is = refill_is xs ws (size ∙ ap length is)

-- the robot of a number is that of the field's robot, past the last one too
pub bodies_at : (rs : List FieldRobot) (i : ℕ) →
    get_or (map robot_of rs) i (robot_of no_robot) ≡ robot_of (get_or rs i no_robot)
bodies_at rs i = by_place (cases_lt i (length rs))
  where
    by_place : ((i < length rs) ⊎ (length rs ≤ i)) →
        get_or (map robot_of rs) i (robot_of no_robot) ≡ robot_of (get_or rs i no_robot)
    by_place (inl h) = get_or-map robot_of rs i no_robot (robot_of no_robot) h
    by_place (inr h) =
        get_or_past (map robot_of rs) i (robot_of no_robot) (omega (arith, length-map rs robot_of)) ∙
        ap robot_of (sym (get_or_past rs i no_robot h))

pub body_at : (g : Arena) (f : Field) (i : ℕ) → RepresentsField g f →
    get_or g.robots i (robot_of no_robot) ≡ robot_of (robot_at f i)
unfolding robot_at
body_at g f i s = ap (λ l. get_or l i (robot_of no_robot)) s.robots ∙ bodies_at f.robots i

pub manned : (g : Arena) (f : Field) → RepresentsField g f → length g.robots ≡ length f.robots
manned g f s = ap length s.robots ∙ length-map f.robots robot_of

-- who lives is one of the robots
pub inside_if_lives : (g : Arena) (i : ℕ) → is_live g i ≡ true → i < length g.robots
unfolding is_live robot_of damage_of no_robot
inside_if_lives g i h = by_place (cases_lt i (length g.robots))
  where
    by_place : ((i < length g.robots) ⊎ (length g.robots ≤ i)) → i < length g.robots
    by_place (inl inside) = inside
    by_place (inr past) =
        let none = get_or_past g.robots i (robot_of no_robot) past in
        let dead : nat_lt 100 100 ≡ true = rw none at h in
        absurd (omega (arith, ltb-true 100 100 dead))

-- the same robots live as they did
pub same_live : (g h : Arena) (i : ℕ) → h.robots ≡ g.robots → is_live h i ≡ is_live g i
unfolding is_live
same_live g h i e = ap (λ (rs : List Robot). nat_lt (get_or rs i (robot_of no_robot)).damage 100) e

-- a robot of the same damage in its place lives as it did
pub lives_as : (g : Arena) (i : ℕ) (b : Robot) → i < length g.robots →
    b.damage ≡ (get_or g.robots i (robot_of no_robot)).damage →
    is_live (record g { robots = set g.robots i b }) i ≡ is_live g i
unfolding is_live
lives_as g i b inside e =
    ap (λ (c : Robot). nat_lt c.damage 100) (get_or-set_same g.robots i b (robot_of no_robot) inside) ∙
    ap (λ (d : ℕ). nat_lt d 100) e

-- who lives is alive in the field
pub alive_if_lives : (g : Arena) (f : Field) (i : ℕ) → RepresentsField g f → is_live g i ≡ true →
    is_alive (robot_at f i) ≡ true
unfolding is_live is_alive robot_of
alive_if_lives g f i s h = sym (ap (λ (b : Robot). nat_lt b.damage 100) (body_at g f i s)) ∙ h

-- the living, counted on the robots of an arena
fold_map : {X Y : Type 0} (f : X → Y) (g : Y → ℕ) (a : ℕ) (xs : List X) →
    fold (λ s y. s + g y) a (map f xs) ≡ fold (λ s x. s + g (f x)) a xs
fold_map f g a [] = refl
fold_map f g a (x ∷ xs) = fold_map f g (a + g (f x)) xs

pub living : (rs : List FieldRobot) →
    count_by (λ (b : Robot). nat_lt b.damage 100) (map robot_of rs) ≡ count_by is_alive rs
unfolding robot_of is_alive
living rs = fold_map robot_of (λ (b : Robot). cond (nat_lt b.damage 100) 1 0) 0 rs

-- the missile that a robot fires
abbrev missile_to : Arena → Field → ℕ → ℕ → ℕ → Missile
missile_to g f i degree range = record {
  burst = g.updates + flight range;
  at = record {
    x = aimed_x (place_x (robot_at f i).leg) degree range;
    y = aimed_y (place_y (robot_at f i).leg) degree range;
  };
}

shot_is : (g : Arena) (f : Field) (i degree range : ℕ) (missile : Missile) → g.updates ≡ f.updates →
    missile ≡ missile_to g f i degree range →
    shot_of i missile ≡ shot f.updates i (robot_at f i).leg degree range
unfolding shot shot_of
shot_is g f i degree range missile u m = rw (m, u) refl

bursts_later : (g : Arena) (f : Field) (range : ℕ) (missile : Missile) → g.updates ≡ f.updates →
    missile.burst ≡ g.updates + flight range → f.updates < missile.burst
unfolding flight
bursts_later g f range missile u b = omega arith

-- a robot that fires
pub fires : (g : Arena) (f : Field) (i degree range : ℕ) (slots : List (List Missile)) (missile : Missile) →
    RepresentsField g f → nat_lt (length (in_air f.updates i f.shots)) 2 ≡ true →
    missile ≡ missile_to g f i degree range →
    ((updates : ℕ) (shots : List Shot) → updates < missile.burst → HoldsShots updates g.slots shots →
    HoldsShots updates slots (shots ++ shot_of i missile ∷ [])) →
    RepresentsField (record g { slots = slots }) (fired f i degree range).1
unfolding fired
fires g f i degree range slots missile s free m holds =
    rw free (record {
      updates = s.updates;
      robots = s.robots;
      missiles = subst (λ x. HoldsShots f.updates slots (f.shots ++ x ∷ []))
          (shot_is g f i degree range missile s.updates m)
          (holds f.updates f.shots (bursts_later g f range missile s.updates (ap (λ (x : Missile). x.burst) m))
          s.missiles);
      random = s.random;
    })

pub fires_reply : (f : Field) (i degree range : ℕ) → nat_lt (length (in_air f.updates i f.shots)) 2 ≡ true →
    pos 1 ≡ (fired f i degree range).0
unfolding fired
fires_reply f i degree range free = rw free refl

pub keeps_fire : (f : Field) (i degree range : ℕ) → nat_lt (length (in_air f.updates i f.shots)) 2 ≡ false →
    (pos 0 ≡ (fired f i degree range).0) × (f ≡ (fired f i degree range).1)
unfolding fired
keeps_fire f i degree range full = rw full (refl, refl)

-- a robot that wants another way
pub directs : (g : Arena) (f : Field) (i degree speed : ℕ) (b : Robot) → RepresentsField g f →
    b ≡ robot_of (record (robot_at f i) { leg = with_wanted (robot_at f i).leg degree speed }) →
    RepresentsField (record g { robots = set g.robots i b }) (field_with_wanted f i degree speed)
unfolding field_with_wanted
directs g f i degree speed b s e = record {
  updates = s.updates;
  robots = ap (λ l. set l i b) s.robots ∙ ap (λ x. set (map robot_of f.robots) i x) e ∙
      sym (map-set robot_of f.robots i (record (robot_at f i) { leg = with_wanted (robot_at f i).leg degree speed }));
  missiles = s.missiles;
  random = s.random;
}

-- an update
pub updates : (g next : Arena) (f : Field) → RepresentsField g f → next.updates ≡ g.updates + 1 →
    next.random ≡ g.random →
    next.robots ≡ map robot_of (moved f).robots → HoldsShots (f.updates + 1) next.slots f.shots →
    RepresentsField next (moved f)
unfolding moved
updates g next f s u r robots slots = record {
  updates = u ∙ ap (λ n. n + 1) s.updates;
  robots = robots;
  missiles = slots;
  random = r ∙ s.random;
}

-- an element written in a list that was lent
pub put_is : {X : Type 0} (xs ys : List X) (i : ℕ) (x : X) → ys ≡ xs → refill (length xs) xs (set ys i x) ≡ set xs i x
put_is xs ys i x e = refill_is xs (set ys i x) (length-set ys i x ∙ ap length e) ∙ ap (λ l. set l i x) e
