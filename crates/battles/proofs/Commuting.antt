-- Between updates, turns of two robots commute unless both draw a random number: no robot can tell their order.
use Rattle.std.proofs.Common.{◌≡◌, ◌≢◌, ℕ, ◌+◌, ◌<◌, zero, suc, Bool, true, false, ℤ, List, [], ◌∷◌, ◌++◌, map, take, drop, length, set, get_or, inl, inr, refl, sym, ap, ◌∙◌, arith}
use Rattle.std.specs.Prelude.{filter, flat_map, nat_lt, min, sum, ◌==◌, if◌then◌else◌, pos}
use Rattle.std.proofs.lemmas.Bool.{cases_Bool, cases_eq, true≢false}
use Rattle.std.proofs.lemmas.Bool.Decides.{nat_tests}
use Rattle.std.proofs.lemmas.List.{append-nil, get_or-set_other, take-map, drop-map, map-append}
use Rattle.std.proofs.lemmas.List.Elements.{All-append}
use Rattle.grammar.specs.declared.resolved_names.Intrinsic.{Intrinsic}
use Rattle.grammar.specs.declared.resolved_names.Intrinsic.TheVariants.{Scan, Cannon, Drive, Damage, Speed, LocX, LocY, Rand}
use Rattle.arena.specs.Answer.{answer, argument_at, fired, field_with_wanted, random_number, with_wanted}
use Rattle.arena.specs.Collisions.{others}
use Rattle.arena.specs.Field.{Field, Shot, FieldRobot as Body, no_robot, robot_at, is_live_at, is_alive, damage_of, metres_x, metres_y}
use Rattle.arena.specs.Leg.{clamped, way_east, way_north, end_x, end_y, place_x, place_y}
use Rattle.arith.specs.Degree.{degree_of}
use Rattle.arena.specs.Shots.{in_air, shot}
use Rattle.arena.specs.Scan.{east_to, north_to, in_arc, sees, range_of, nearest, scanned}
use Rattle.code.specs.declared.want.Want.{Want}
use Rattle.code.specs.declared.want.Want.TheVariants.{Ask}
use Rattle.battles.specs.Battle.{Behaviour, BattleState, after_want, robot_turn, behaviour_at, turn}
use Rattle.battles.specs.Intervals.{IsAlone, TurnIsAlone, SameShots, AreAlike, IsLike, draws_random}
use Rattle.battles.proofs.Alike.{like_refl, air_append, all_front, all_back, pushed, fires}

robots_of_fired : (f : Field) (i degree range : ℕ) → (fired f i degree range).1.robots ≡ f.robots
unfolding fired
robots_of_fired f i degree range = elim (cases_Bool (nat_lt (length (in_air f.updates i f.shots)) 2)) [
  | inl holds ↦ rw holds refl
  | inr fails ↦ rw fails refl
]

-- an answer leaves the other robots as they are
others_stay : (f : Field) (i j : ℕ) (intrinsic : Intrinsic) (a : List ℤ) → i ≢ j
    → robot_at (answer f j intrinsic a).1 i ≡ robot_at f i
unfolding answer robot_at field_with_wanted
others_stay f i j Cannon a distinct = ap (λ l. get_or l i no_robot) (robots_of_fired f j _ _)
others_stay f i j Drive a distinct = get_or-set_other f.robots j i _ no_robot distinct
others_stay f i j _ a distinct = refl

-- a robot that looks the same is seen as before
set_same : {A B : Type 0} (look : A → B) (l : List A) (j : ℕ) (x none : A) → look x ≡ look (get_or l j none)
    → map look (set l j x) ≡ map look l
set_same look [] j x none same = refl
set_same look (y ∷ l) zero x none same = ap (λ first. first ∷ map look l) same
set_same look (y ∷ l) (suc j) x none same = ap (λ rest. look y ∷ rest) (set_same look l j x none same)

looks : {A : Type 0} → (A → Bool) → (A → ℕ) → A → List ℕ
looks seen range x = if seen x then range x ∷ [] else []

ranges_are : {A : Type 0} (seen : A → Bool) (range : A → ℕ) (l : List A)
    → map range (filter seen l) ≡ flat_map (λ (look : List ℕ). look) (map (looks seen range) l)
unfolding looks
ranges_are seen range [] = refl
ranges_are seen range (x ∷ l) = elim (cases_Bool (seen x)) [
  | inl holds ↦ rw holds (ap (λ rest. range x ∷ rest) (ranges_are seen range l))
  | inr fails ↦ rw fails (ranges_are seen range l)
]

others_map : {A B : Type 0} (look : A → B) (l : List A) (i : ℕ) → map look (others l i) ≡ others (map look l) i
unfolding others
others_map look l i = map-append look (take i l) (drop (i + 1) l)
    ∙ ap (λ front. front ++ map look (drop (i + 1) l)) (sym (take-map look i l))
    ∙ ap (λ back. take i (map look l) ++ back) (sym (drop-map look (i + 1) l))

ranges_same : {A : Type 0} (seen : A → Bool) (range : A → ℕ) (l : List A) (i j : ℕ) (x none : A)
    → seen x ≡ seen (get_or l j none) → range x ≡ range (get_or l j none)
    → map range (filter seen (others (set l j x) i)) ≡ map range (filter seen (others l i))
unfolding looks
ranges_same seen range l i j x none sight distance =
    let same : looks seen range x ≡ looks seen range (get_or l j none) = rw (sight, distance) refl in
    let all : map (looks seen range) (set l j x) ≡ map (looks seen range) l =
    set_same (looks seen range) l j x none same in
    ranges_are seen range (others (set l j x) i)
    ∙
    ap (flat_map (λ (look : List ℕ). look))
    (others_map (looks seen range) (set l j x) i ∙ ap (λ ls. others ls i) all ∙
    sym (others_map (looks seen range) l i))
    ∙ sym (ranges_are seen range (others l i))

-- so a scan doesn't depend on what was answered to others
scans_same : (f : Field) (i j : ℕ) (intrinsic : Intrinsic) (a : List ℤ) (degree resolution : ℕ) → i ≢ j
    → scanned (answer f j intrinsic a).1 i degree resolution ≡ scanned f i degree resolution
unfolding answer robot_at field_with_wanted with_wanted scanned sees range_of is_alive damage_of in_arc east_to north_to
    metres_x
    metres_y place_x place_y end_x end_y way_east way_north
scans_same f i j Cannon a degree resolution distinct =
    rw (robots_of_fired f j (degree_of (argument_at a 0)) (clamped 700 (argument_at a 1))) refl
scans_same f i j Drive a degree resolution distinct =
    let from = robot_at f i in
    rw (get_or-set_other f.robots j i _ no_robot distinct)
    (ap nearest (ranges_same (sees from degree resolution) (range_of from) f.robots i j _ no_robot refl refl))
scans_same f i j _ a degree resolution distinct = refl

-- What is in the air of a robot's own doesn't depend on what others fire,
none_of_others : (f : Field) (i j degree range : ℕ) → i ≢ j → in_air f.updates i (pushed f j degree range) ≡ []
unfolding pushed in_air shot
none_of_others f i j degree range distinct =
    let no : (j == i) ≡ false = grind (arith, nat_tests) in
    elim (cases_Bool (nat_lt (length (in_air f.updates j f.shots)) 2)) [
      | inl may ↦ rw (may, no) refl
      | inr not ↦ rw not refl
    ]

own_air : (f : Field) (shots : List Shot) (i j degree range : ℕ) → i ≢ j
    → in_air f.updates i (shots ++ pushed f j degree range) ≡ in_air f.updates i shots
own_air f shots i j degree range distinct =
    air_append f.updates i shots (pushed f j degree range)
    ∙ ap (λ air. in_air f.updates i shots ++ air) (none_of_others f i j degree range distinct)
    ∙ append-nil (in_air f.updates i shots)

-- and shots of two robots can be fired in either order.
shots_swap : (f : Field) (i j degree range towards far : ℕ) → i ≢ j
    → SameShots f.updates ((f.shots ++ pushed f i degree range) ++ pushed f j towards far)
    ((f.shots ++ pushed f j towards far) ++ pushed f i degree range)
shots_swap f i j degree range towards far distinct =
    let mine = pushed f i degree range in
    let theirs = pushed f j towards far in
    record {
      in_air = λ k. elim (cases_eq k i) [
        | inl own ↦
            let apart : k ≢ j = λ same. distinct (sym own ∙ same) in
            air_append f.updates k (f.shots ++ theirs) mine
            ∙ ap (λ air. air ++ in_air f.updates k mine) (own_air f f.shots k j towards far apart)
            ∙ sym (air_append f.updates k f.shots mine)
            ∙ sym (own_air f (f.shots ++ mine) k j towards far apart)
        | inr other ↦
            own_air f (f.shots ++ theirs) k i degree range other
            ∙ air_append f.updates k f.shots theirs
            ∙ ap (λ air. air ++ in_air f.updates k theirs) (sym (own_air f f.shots k i degree range other))
            ∙ sym (air_append f.updates k (f.shots ++ mine) theirs)
      ];
      owned = λ n all.
          let Owned : Shot → Type 0 = λ s. s.owner < n in
          let first = all_front Owned (f.shots ++ mine) theirs all in
          All-append Owned (f.shots ++ theirs) mine
          (All-append Owned f.shots theirs (all_front Owned f.shots mine first)
          (all_back Owned (f.shots ++ mine) theirs all))
          (all_back Owned f.shots mine first);
    }

fired_field : (f : Field) (i degree range : ℕ) →
    fired f i degree range ≡ ((fired f i degree range).0, record f { shots = f.shots ++ pushed f i degree range })
fired_field f i degree range = fires f f.shots i degree range refl

pushed_same : (f : Field) (i j degree range towards speed : ℕ) → i ≢ j
    → pushed (field_with_wanted f j towards speed) i degree range ≡ pushed f i degree range
unfolding pushed field_with_wanted robot_at
pushed_same f i j degree range towards speed distinct =
    rw
    (get_or-set_other f.robots j i (record (robot_at f j) { leg = with_wanted (robot_at f j).leg towards speed })
    no_robot distinct) refl

fired_reply : (f : Field) (i degree range : ℕ)
    → (fired f i degree range).0 ≡ (if nat_lt (length (in_air f.updates i f.shots)) 2 then pos 1 else pos 0)
unfolding fired
fired_reply f i degree range = elim (cases_Bool (nat_lt (length (in_air f.updates i f.shots)) 2)) [
  | inl may ↦ rw may refl
  | inr not ↦ rw not refl
]

-- What a robot is answered doesn't depend on what others do, unless both draw a random number.
reply_same : (intrinsic other : Intrinsic) (a b : List ℤ) (i j : ℕ) (f : Field) →
    (draws_random intrinsic ≡ true → draws_random other ≡ false) → i ≢ j
    → (answer (answer f j other b).1 i intrinsic a).0 ≡ (answer f i intrinsic a).0
unfolding answer draws_random field_with_wanted random_number
reply_same Scan other a b i j f either distinct =
    ap pos (scans_same f i j other b (degree_of (argument_at a 0)) (clamped 10 (argument_at a 1)) distinct)
reply_same Damage other a b i j f either distinct = ap (λ r. pos (damage_of r)) (others_stay f i j other b distinct)
reply_same Speed other a b i j f either distinct =
    ap (λ (r : Body). pos r.leg.speed) (others_stay f i j other b distinct)
reply_same LocX other a b i j f either distinct = ap (λ r. pos (metres_x r)) (others_stay f i j other b distinct)
reply_same LocY other a b i j f either distinct = ap (λ r. pos (metres_y r)) (others_stay f i j other b distinct)
reply_same Rand Rand a b i j f either distinct = absurd (true≢false (either refl))
reply_same Rand Cannon a b i j f either distinct =
    rw (fired_field f j (degree_of (argument_at b 0)) (clamped 700 (argument_at b 1))) refl
reply_same Rand _ a b i j f either distinct = refl
reply_same Cannon Cannon a b i j f either distinct =
    let towards = degree_of (argument_at b 0) in
    let far = clamped 700 (argument_at b 1) in
    rw (fired_field f j towards far)
    (ap (λ (asked : ℤ × Field). asked.0) (fires f (f.shots ++ pushed f j towards far) i (degree_of (argument_at a 0))
    (clamped 700 (argument_at a 1))
    (own_air f f.shots i j towards far distinct)))
reply_same Cannon Drive a b i j f either distinct =
    fired_reply (field_with_wanted f j (degree_of (argument_at b 0)) (clamped 100 (argument_at b 1))) i _ _ ∙
    sym (fired_reply f i _ _)
reply_same Cannon Rand a b i j f either distinct =
    fired_reply (record f { drawn = f.drawn + 1 }) i _ _ ∙ sym (fired_reply f i _ _)
reply_same Cannon _ a b i j f either distinct = refl
reply_same _ other a b i j f either distinct = refl

set_swap : {A : Type 0} (l : List A) (i j : ℕ) (x y : A) → i ≢ j → set (set l i x) j y ≡ set (set l j y) i x
set_swap [] i j x y distinct = refl
set_swap (z ∷ l) zero zero x y distinct = absurd (distinct refl)
set_swap (z ∷ l) zero (suc j) x y distinct = refl
set_swap (z ∷ l) (suc i) zero x y distinct = refl
set_swap (z ∷ l) (suc i) (suc j) x y distinct =
    ap (λ rest. z ∷ rest) (set_swap l i j x y (λ same. distinct (ap suc same)))

driven_twice : (f : Field) (i j degree speed towards fast : ℕ) → i ≢ j
    →
    field_with_wanted (field_with_wanted f i degree speed) j towards fast ≡
    field_with_wanted (field_with_wanted f j towards fast) i degree speed
unfolding field_with_wanted robot_at
driven_twice f i j degree speed towards fast distinct =
    let mine = record (robot_at f i) { leg = with_wanted (robot_at f i).leg degree speed } in
    let theirs = record (robot_at f j) { leg = with_wanted (robot_at f j).leg towards fast } in
    let back : j ≢ i = λ same. distinct (sym same) in
    rw (get_or-set_other f.robots i j mine no_robot back, get_or-set_other f.robots j i theirs no_robot distinct)
    (ap (λ robots. record f { robots = robots }) (set_swap f.robots i j mine theirs distinct))

-- Nor can the order be seen on the field.
fields_alike : (intrinsic other : Intrinsic) (a b : List ℤ) (i j : ℕ) (f : Field) → draws_random intrinsic ≡ false →
    i ≢ j
    → AreAlike (answer (answer f i intrinsic a).1 j other b).1 (answer (answer f j other b).1 i intrinsic a).1
unfolding answer draws_random field_with_wanted robot_at pushed
fields_alike Rand other a b i j f is distinct = absurd (true≢false is)
fields_alike Cannon Cannon a b i j f is distinct =
    let degree = degree_of (argument_at a 0) in
    let range = clamped 700 (argument_at a 1) in
    let towards = degree_of (argument_at b 0) in
    let far = clamped 700 (argument_at b 1) in
    let back : j ≢ i = λ same. distinct (sym same) in
    rw (
      fired_field f i degree range,
      fired_field f j towards far,
      fires f (f.shots ++ pushed f i degree range) j towards far (own_air f f.shots j i degree range back),
      fires f (f.shots ++ pushed f j towards far) i degree range (own_air f f.shots i j towards far distinct),
    ) (record {
      shots = (f.shots ++ pushed f j towards far) ++ pushed f i degree range;
      is = refl;
      same = shots_swap f i j degree range towards far distinct;
    })
fields_alike Cannon Drive a b i j f is distinct =
    let degree = degree_of (argument_at a 0) in
    let range = clamped 700 (argument_at a 1) in
    let towards = degree_of (argument_at b 0) in
    let speed = clamped 100 (argument_at b 1) in
    rw (
      fired_field f i degree range,
      fired_field (field_with_wanted f j towards speed) i degree range,
      pushed_same f i j degree range towards speed distinct,
    )
    (like_refl _)
fields_alike Cannon Rand a b i j f is distinct =
    let degree = degree_of (argument_at a 0) in
    let range = clamped 700 (argument_at a 1) in
    rw (fired_field f i degree range, fired_field (record f { drawn = f.drawn + 1 }) i degree range) (like_refl _)
fields_alike Cannon _ a b i j f is distinct = like_refl _
fields_alike Drive Cannon a b i j f is distinct =
    let degree = degree_of (argument_at a 0) in
    let speed = clamped 100 (argument_at a 1) in
    let towards = degree_of (argument_at b 0) in
    let far = clamped 700 (argument_at b 1) in
    let back : j ≢ i = λ same. distinct (sym same) in
    rw (
      fired_field f j towards far,
      fired_field (field_with_wanted f i degree speed) j towards far,
      pushed_same f j i towards far degree speed back,
    )
    (like_refl _)
fields_alike Drive Drive a b i j f is distinct =
    let degree = degree_of (argument_at a 0) in
    let speed = clamped 100 (argument_at a 1) in
    let towards = degree_of (argument_at b 0) in
    let fast = clamped 100 (argument_at b 1) in
    let back : j ≢ i = λ same. distinct (sym same) in
    rw (driven_twice f i j degree speed towards fast distinct) (like_refl _)
fields_alike Drive _ a b i j f is distinct = like_refl _
fields_alike _ other a b i j f is distinct = like_refl _

-- The same of what a robot wants.
wants_alike : (want other : Want) (i j : ℕ) (f : Field) (trace others : List ℤ) → IsAlone want → i ≢ j
    →
    AreAlike (after_want other j (after_want want i f trace).0 others).0
    (after_want want i (after_want other j f others).0 trace).0
unfolding after_want
wants_alike (Ask intrinsic a) (Ask asked b) i j f trace others is distinct =
    fields_alike intrinsic asked a b i j f is distinct
wants_alike (Ask intrinsic a) _ i j f trace others is distinct = like_refl _
wants_alike _ other i j f trace others is distinct = like_refl _

trace_same : (want other : Want) (i j : ℕ) (f : Field) (trace others : List ℤ) → IsAlone want → i ≢ j
    → ((after_want want i (after_want other j f others).0 trace).1 ≡ (after_want want i f trace).1)
    × ((after_want other j (after_want want i f trace).0 others).1 ≡ (after_want other j f others).1)
unfolding after_want
trace_same (Ask intrinsic a) (Ask asked b) i j f trace others is distinct = (
  ap (λ reply. trace ++ reply ∷ [])
      (reply_same intrinsic asked a b i j f (λ draws_random. absurd (true≢false (sym draws_random ∙ is))) distinct),
  ap (λ reply. others ++ reply ∷ [])
      (reply_same asked intrinsic b a j i f (λ draws_random. is) (λ same. distinct (sym same))),
)
trace_same (Ask intrinsic a) _ i j f trace others is distinct = (refl, refl)
trace_same _ other i j f trace others is distinct = (refl, refl)

-- a turn leaves the other robots as they are
granted_stays : (want : Want) (i j : ℕ) (f : Field) (trace : List ℤ) → i ≢ j
    → robot_at (after_want want j f trace).0 i ≡ robot_at f i
unfolding after_want
granted_stays (Ask intrinsic a) i j f trace distinct = others_stay f i j intrinsic a distinct
granted_stays _ i j f trace distinct = refl

step_stays : (robot : Behaviour) (i j : ℕ) (f : Field) (trace : List ℤ) → i ≢ j
    → robot_at (robot_turn robot j f trace).0 i ≡ robot_at f i
unfolding robot_turn
step_stays robot i j f trace distinct = elim (cases_Bool (is_live_at f j)) [
  | inl live ↦ rw live (granted_stays (robot trace) i j f trace distinct)
  | inr dead ↦ rw dead refl
]

pub live_same : (robot : Behaviour) (i j : ℕ) (f : Field) (trace : List ℤ) → i ≢ j
    → is_live_at (robot_turn robot j f trace).0 i ≡ is_live_at f i
unfolding is_live_at
live_same robot i j f trace distinct = ap is_alive (step_stays robot i j f trace distinct)

step_live : (robot : Behaviour) (i : ℕ) (f : Field) (trace : List ℤ) → is_live_at f i ≡ true
    → robot_turn robot i f trace ≡ after_want (robot trace) i f trace
unfolding robot_turn
step_live robot i f trace live = rw live refl

step_dead : (robot : Behaviour) (i : ℕ) (f : Field) (trace : List ℤ) → is_live_at f i ≡ false →
    robot_turn robot i f trace ≡ (f, trace)
unfolding robot_turn
step_dead robot i f trace dead = rw dead refl

-- An answer leaves the robot itself as alive as it is.
keeps_damages : (l : List Body) (i : ℕ) (x none : Body) → x.damages ≡ (get_or l i none).damages
    → (get_or (set l i x) i none).damages ≡ (get_or l i none).damages
keeps_damages [] i x none same = refl
keeps_damages (y ∷ l) zero x none same = same
keeps_damages (y ∷ l) (suc i) x none same = keeps_damages l i x none same

answer_lives : (intrinsic : Intrinsic) (a : List ℤ) (i : ℕ) (f : Field) →
    is_live_at (answer f i intrinsic a).1 i ≡ is_live_at f i
unfolding answer field_with_wanted is_live_at is_alive damage_of robot_at
answer_lives Cannon a i f = ap (λ robots. is_alive (get_or robots i no_robot)) (robots_of_fired f i _ _)
answer_lives Drive a i f =
    ap (λ hurts. nat_lt (min (sum hurts) 100) 100)
    (keeps_damages f.robots i
    (record (robot_at f i)
    { leg = with_wanted (robot_at f i).leg (degree_of (argument_at a 0)) (clamped 100 (argument_at a 1)) }) no_robot
    refl)
answer_lives _ a i f = refl

granted_lives : (want : Want) (i : ℕ) (f : Field) (trace : List ℤ) →
    is_live_at (after_want want i f trace).0 i ≡ is_live_at f i
unfolding after_want
granted_lives (Ask intrinsic a) i f trace = answer_lives intrinsic a i f
granted_lives _ i f trace = refl

pub step_lives : (robot : Behaviour) (i : ℕ) (f : Field) (trace : List ℤ) →
    is_live_at (robot_turn robot i f trace).0 i ≡ is_live_at f i
step_lives robot i f trace = elim (cases_Bool (is_live_at f i)) [
  | inl live ↦ ap (λ (stepped : Field × List ℤ). is_live_at stepped.0 i) (step_live robot i f trace live) ∙
      granted_lives (robot trace) i f trace
  | inr dead ↦ ap (λ (stepped : Field × List ℤ). is_live_at stepped.0 i) (step_dead robot i f trace dead)
]

-- The same of two robots: the first one's step is one that it does alone.
steps_alike : (robot other : Behaviour) (i j : ℕ) (f : Field) (trace others : List ℤ) → TurnIsAlone robot i f trace →
    i ≢ j
    →
    AreAlike (robot_turn other j (robot_turn robot i f trace).0 others).0
    (robot_turn robot i (robot_turn other j f others).0 trace).0
    × ((robot_turn robot i (robot_turn other j f others).0 trace).1 ≡ (robot_turn robot i f trace).1)
    × ((robot_turn other j (robot_turn robot i f trace).0 others).1 ≡ (robot_turn other j f others).1)
steps_alike robot other i j f trace others steps distinct =
    let back : j ≢ i = λ same. distinct (sym same) in
    let mine = live_same robot j i f trace back in
    let theirs = live_same other i j f others distinct in
    elim (cases_Bool (is_live_at f i)) [
      | inl live ↦ elim (cases_Bool (is_live_at f j)) [
        | inl moves ↦
            let same = trace_same (robot trace) (other others) i j f trace others (steps live) distinct in
            rw (
              step_live robot i f trace live,
              step_live other j f others moves,
              step_live robot i (after_want (other others) j f others).0 trace
                  (rw (step_live other j f others moves) at theirs ∙ live),
              step_live other j (after_want (robot trace) i f trace).0 others
                  (rw (step_live robot i f trace live) at mine ∙ moves),
            ) (wants_alike (robot trace) (other others) i j f trace others (steps live) distinct, same.0, same.1)
        | inr rests ↦
            rw (
              step_dead other j f others rests,
              step_dead other j (robot_turn robot i f trace).0 others (mine ∙ rests),
            ) (like_refl _, refl, refl)
      ]
      | inr dead ↦
          rw (
            step_dead robot i f trace dead,
            step_dead robot i (robot_turn other j f others).0 trace (theirs ∙ dead),
          ) (like_refl _, refl, refl)
    ]

-- The same of whole states: the next turn of a robot is one that it does alone.
unfoldable pub TurnsAlone : List Behaviour → ℕ → BattleState → Type 0
TurnsAlone robots i s = TurnIsAlone (behaviour_at robots i) i s.field (get_or s.traces i [])

pub alone_stays : (robots : List Behaviour) (i j : ℕ) (s : BattleState) → TurnsAlone robots i s → i ≢ j →
    TurnsAlone robots i (turn robots j s)
unfolding turn TurnsAlone
alone_stays robots i j s alone distinct = λ live.
    let other = behaviour_at robots j in
    rw (get_or-set_other s.traces j i (robot_turn other j s.field (get_or s.traces j [])).1 [] distinct)
    (alone (sym (live_same other i j s.field (get_or s.traces j []) distinct) ∙ live))

pub commutes : (robots : List Behaviour) (i j : ℕ) (s : BattleState) → TurnsAlone robots i s → i ≢ j
    → IsLike (turn robots j (turn robots i s)) (turn robots i (turn robots j s))
unfolding turn TurnsAlone
commutes robots i j s alone distinct =
    let trace = get_or s.traces i [] in
    let others = get_or s.traces j [] in
    let mine = robot_turn (behaviour_at robots i) i s.field trace in
    let theirs = robot_turn (behaviour_at robots j) j s.field others in
    let alike = steps_alike (behaviour_at robots i) (behaviour_at robots j) i j s.field trace others alone distinct in
    let back : j ≢ i = λ same. distinct (sym same) in
    rw (get_or-set_other s.traces i j mine.1 [] back, get_or-set_other s.traces j i theirs.1 [] distinct) (record {
      field = alike.0;
      traces = ap (set (set s.traces j theirs.1) i) alike.1
          ∙ sym (set_swap s.traces i j mine.1 theirs.1 distinct)
          ∙ ap (set (set s.traces i mine.1) j) (sym alike.2);
    })
