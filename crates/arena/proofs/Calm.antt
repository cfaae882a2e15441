-- Robots that are far from each other don't collide in an update.
use Rattle.std.proofs.Common.{◌≡◌, ◌⊎◌, inl, inr, ℕ, ◌+◌, ◌-◌, ◌/◌, ◌<◌, ◌≤◌, Bool, true, false, ◌&&◌, nat_lt, List, length, drop, take, map, get_or, set, refl, sym, ap, subst, ◌∙◌, arith}
use Rattle.std.specs.Int.{abs_diff}
use Rattle.std.specs.List.{All}
use Rattle.std.proofs.lemmas.Bool.{cases_lt}
use Rattle.std.proofs.lemmas.Bool.Decides.{nat_tests}
use Rattle.std.proofs.lemmas.List.{get_or_read, get_or-drop, get_or-map, get_or-set_same, get_or-set_other, length-drop, length-map, length-set}
use Rattle.std.proofs.lemmas.List.Elements.{All-more}
use Rattle.arena.specs.Field.{FieldRobot, Field, no_robot}
use Rattle.arena.specs.Collisions.{AttemptedMove, attempted_move, is_close, collision_count}
use Rattle.arena.specs.Arena.{Motion, motion_of, Robot}
use Rattle.arena.specs.Ahead.{robot_ahead}
use Rattle.arena.specs.Apart.{gap, IsNearby, IsAtPlace, AreApartFor}
use Rattle.arena.proofs.InPlace.{none}
use Rattle.arena.proofs.Touches.{untouched}

-- the gap between the robots of two numbers
abbrev pub gap_at : List Robot → ℕ → ℕ → ℕ
gap_at robots a b = gap (get_or robots a none).motion (get_or robots b none).motion

-- one robot more has such a gap to those after it
pub gaps_more : (robots : List Robot) (i : ℕ) (m : Robot) (before after : ℕ) → after ≤ before → i < length robots →
    m ≡ get_or robots i m → ((a b : ℕ) → a < i → a < b → b < length robots → before ≤ gap_at robots a b) →
    All (λ (other : Robot). after ≤ gap m.motion other.motion) (drop (i + 1) robots) → (a b : ℕ) → a < i + 1 → a < b →
    b < length robots → after ≤ gap_at robots a b
gaps_more robots i m before after less_now inside at earlier later a b l less last = by_place (cases_lt a i)
  where
    by_place : ((a < i) ⊎ (i ≤ a)) → after ≤ gap_at robots a b
    by_place (inl early) = omega (arith, earlier a b early less last)
    by_place (inr late) =
        let same : a ≡ i = omega arith in
        let k = b - (i + 1) in
        let b_is : i + 1 + k ≡ b = omega arith in
        let here : m ≡ get_or robots i none = get_or_read robots i m inside at none in
        let apart = later k none (omega (arith, length-drop (i + 1) robots)) in
        let there : get_or (drop (i + 1) robots) k none ≡ get_or robots b none =
        get_or-drop (i + 1) robots k none ∙ ap (λ n. get_or robots n none) b_is in
        let both : after ≤ gap_at robots i b =
        subst (λ (x : Robot). after ≤ gap (get_or robots i none).motion x.motion) there
        (subst (λ (x : Robot). after ≤ gap x.motion (get_or (drop (i + 1) robots) k none).motion) here apart) in
        subst (λ n. after ≤ gap_at robots n b) (sym same) both

-- the least gap to one robot more
pub least_more : (m : Motion) (others : List Robot) (i : ℕ) (b : Robot) (so_far next : ℕ) → i < length others →
    b ≡ get_or others i b → next ≤ so_far → next / 100000 ≤ gap m b.motion →
    All (λ other. so_far / 100000 ≤ gap m other.motion) (take i others) →
    All (λ other. next / 100000 ≤ gap m other.motion) (take (i + 1) others)
least_more m others i b so_far next l e low here h =
    All-more (λ (other : Robot). next / 100000 ≤ gap m other.motion) others i b l
    (λ k d inside. let before = h k d inside in omega (arith, before, low))
    (subst (λ (other : Robot). next / 100000 ≤ gap m other.motion) e here)

-- nothing is said of no updates
pub far_none : (bodies : List Robot) → AreApartFor 0 bodies
far_none bodies = record { gaps = λ a b less last some. absurd (omega arith) }

pub far_one : (updates : ℕ) (bodies : List Robot) → (updates ≡ 0 → ⊥) → AreApartFor updates bodies →
    AreApartFor 1 bodies
far_one updates bodies some far =
    record {
      gaps =
          λ a b less last one. let more : 0 <
          updates = omega (arith, some) in omega (arith, far.gaps a b less last more);
    }

-- after an update there is one less to go
pub far_less : (updates : ℕ) (bodies now : List Robot) → length now ≡ length bodies →
    ((k : ℕ) → k < length bodies → IsNearby (get_or bodies k none).motion (get_or now k none).motion) →
    AreApartFor updates bodies → AreApartFor (updates - 1) now
far_less updates bodies now size nearby far = record {
  gaps = λ a b less last some.
      let last_was : b < length bodies = omega (arith, last, size) in
      let at_a = nearby a (omega (arith, less, last_was)) in
      let at_b = nearby b last_was in
      omega (arith, far.gaps a b less last_was (omega arith), at_a.on_x, at_a.on_y, at_b.on_x, at_b.on_y);
}

-- robots that are where they were are as far from each other as they were
pub far_same : (updates : ℕ) (bodies now : List Robot) → length now ≡ length bodies →
    ((k : ℕ) → k < length bodies → IsAtPlace (get_or bodies k none).motion (get_or now k none).motion) →
    AreApartFor updates bodies → AreApartFor updates now
far_same updates bodies now size places far = record {
  gaps = λ a b less last some.
      let last_was : b < length bodies = omega (arith, last, size) in
      let at_a = places a (omega (arith, less, last_was)) in
      let at_b = places b last_was in
      omega (arith, far.gaps a b less last_was some, at_a.on_x, at_a.on_y, at_b.on_x, at_b.on_y);
}

same_place : (t : Motion) → IsAtPlace t t
same_place t = record { on_x = refl; on_y = refl }

-- one robot is written, at its index
pub far_set : (updates : ℕ) (bodies : List Robot) (i : ℕ) (b : Robot) → i < length bodies →
    IsAtPlace (get_or bodies i none).motion b.motion → AreApartFor updates bodies → AreApartFor updates (set bodies i b)
far_set updates bodies i b inside place far =
    far_same updates bodies (set bodies i b) (length-set bodies i b) (λ k l. by_place k (cases_lt k i) (cases_lt i k))
    far
  where
    other : (k : ℕ) → (k ≡ i → ⊥) → IsAtPlace (get_or bodies k none).motion (get_or (set bodies i b) k none).motion
    other k differs =
        subst (λ (x : Robot). IsAtPlace (get_or bodies k none).motion x.motion)
        (sym (get_or-set_other bodies i k b none differs)) (same_place (get_or bodies k none).motion)

    by_place : (k : ℕ) → ((k < i) ⊎ (i ≤ k)) → ((i < k) ⊎ (k ≤ i)) →
        IsAtPlace (get_or bodies k none).motion (get_or (set bodies i b) k none).motion
    by_place k (inl before) _ = other k (λ e. absurd (omega arith))
    by_place k (inr _) (inl after) = other k (λ e. absurd (omega arith))
    by_place k (inr not_before) (inr not_after) =
        let same : i ≡ k = omega arith in
        subst (λ j. IsAtPlace (get_or bodies j none).motion (get_or (set bodies i b) j none).motion) same
        (subst (λ (x : Robot). IsAtPlace (get_or bodies i none).motion x.motion)
        (sym (get_or-set_same bodies i b none inside)) place)

and_false : (a : Bool) → (a && false) ≡ false
and_false true = refl
and_false false = refl

-- two that were far, and moved a little, aren't close
far_on_x : (a b : AttemptedMove) → 10 ≤ abs_diff a.to.x b.to.x → is_close a b ≡ false
unfolding is_close
far_on_x a b far = let off : nat_lt (abs_diff a.to.x b.to.x) 10 ≡ false = grind (arith, nat_tests) in rw off refl

far_on_y : (a b : AttemptedMove) → 10 ≤ abs_diff a.to.y b.to.y → is_close a b ≡ false
unfolding is_close
far_on_y a b far =
    let off : nat_lt (abs_diff a.to.y b.to.y) 10 ≡ false = grind (arith, nat_tests) in
    rw off (and_false (nat_lt (abs_diff a.to.x b.to.x) 10))

not_close : (a b : AttemptedMove) (from_a from_b to_a to_b : Motion) → a.to.x ≡ to_a.x → a.to.y ≡ to_a.y →
    b.to.x ≡ to_b.x →
    b.to.y ≡ to_b.y → IsNearby from_a to_a → IsNearby from_b to_b → 210 ≤ gap from_a from_b → is_close a b ≡ false
not_close a b from_a from_b to_a to_b ax ay bx by_ near_a near_b far = by_axis (cases_lt (abs_diff a.to.x b.to.x) 10)
  where
    by_axis : ((abs_diff a.to.x b.to.x < 10) ⊎ (10 ≤ abs_diff a.to.x b.to.x)) → is_close a b ≡ false
    by_axis (inl near) = far_on_y a b (omega (arith, near_a.on_x, near_b.on_x, near_a.on_y, near_b.on_y))
    by_axis (inr wide) = far_on_x a b wide

-- where a robot drives
goes_to : (r : FieldRobot) (m : AttemptedMove) (b : Robot) → m ≡ attempted_move r → b ≡ robot_ahead r →
    (m.to.x ≡ b.motion.x) × (m.to.y ≡ b.motion.y)
unfolding attempted_move robot_ahead motion_of
goes_to r m b p q = (
  ap (λ (m : AttemptedMove). m.to.x) p ∙ sym (ap (λ (b : Robot). b.motion.x) q),
  ap (λ (m : AttemptedMove). m.to.y) p ∙ sym (ap (λ (b : Robot). b.motion.y) q),
)

-- if all are far from each other, none touches another
pub calm : (f : Field) (robots now : List Robot) → length robots ≡ length f.robots → now ≡ map robot_ahead f.robots →
    ((k : ℕ) → k < length robots → IsNearby (get_or robots k none).motion (get_or now k none).motion) →
    AreApartFor 1 robots → (i : ℕ) → i < length f.robots → collision_count (map attempted_move f.robots) i ≡ 0
calm f robots now size e nearby far i inside =
    let count = length-map f.robots attempted_move in
    untouched (map attempted_move f.robots) i (omega (arith, inside, count))
    (λ a b less last.
    let b_in : b < length f.robots = omega (arith, last, count) in
    let a_in : a < length f.robots = omega (arith, less, b_in) in
    let a_goes =
    goes_to (get_or f.robots a no_robot) (get_or (map attempted_move f.robots) a (attempted_move no_robot))
    (get_or now a none)
    (get_or-map attempted_move f.robots a no_robot (attempted_move no_robot) a_in)
    (ap (λ l. get_or l a none) e ∙ get_or-map robot_ahead f.robots a no_robot none a_in) in
    let b_goes =
    goes_to (get_or f.robots b no_robot) (get_or (map attempted_move f.robots) b (attempted_move no_robot))
    (get_or now b none)
    (get_or-map attempted_move f.robots b no_robot (attempted_move no_robot) b_in)
    (ap (λ l. get_or l b none) e ∙ get_or-map robot_ahead f.robots b no_robot none b_in) in
    not_close _ _ _ _ _ _ a_goes.0 a_goes.1 b_goes.0 b_goes.1 (nearby a (omega (arith, size, a_in)))
    (nearby b (omega (arith, size, b_in))) (far.gaps a b less (omega (arith, size, b_in)) (omega arith)))
