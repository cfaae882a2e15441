-- Whom a robot touches: the robots before it and after it.
use Rattle.std.proofs.Common.{◌≡◌, ℕ, suc, ◌+◌, ◌-◌, ◌<◌, ◌≤◌, ◌⊎◌, inl, inr, Bool, true, false, ◌&&◌, ◌||◌, nat_lt, List, [], ◌∷◌, length, take, drop, get_or, filter, refl, sym, ap, subst, ◌∙◌, cond, ◌++◌, arith}
use Rattle.std.specs.Int.{abs_diff}
use Rattle.std.specs.List.{All, count_by}
use Rattle.std.proofs.lemmas.Bool.{cases_lt}
use Rattle.std.proofs.lemmas.List.{get_or_read, take_rest, get_or-take, get_or-drop, length-take, length-drop}
use Rattle.std.proofs.lemmas.List.Elements.{All-append}
use Rattle.std.proofs.lemmas.List.Sums.{sum_by-append, length-filter}
use Rattle.arena.specs.Field.{no_robot}
use Rattle.arena.proofs.SlotLaws.{inside_is}
use Rattle.arena.specs.Collisions.{AttemptedMove, attempted_move, moves, is_close, is_no_further, collides, others, collision_count}

pub touches_is : (movers : List AttemptedMove) (i : ℕ) (m : AttemptedMove) (before after : ℕ) → i < length movers →
    m ≡ get_or movers i m →
    before ≡ count_by (collides m) (take i movers) →
    after ≡ count_by (collides m) (take (length movers - (i + 1)) (drop (i + 1) movers)) →
    before + after ≡ collision_count movers i
unfolding collision_count others
touches_is movers i m before after inside at b a =
    let same : m ≡ get_or movers i (attempted_move no_robot) =
    get_or_read movers i m inside at (attempted_move no_robot) in
    let rest = ap (count_by (collides m)) (take_rest movers (i + 1)) in
    let parts = sum_by-append (λ x. cond (collides m x) 1 0) (take i movers) (drop (i + 1) movers) in
    ap (λ x. x + after) b ∙ ap (λ x. count_by (collides m) (take i movers) + x) (a ∙ rest) ∙ sym parts ∙
    ap (λ n. count_by (collides n) (take i movers ++ drop (i + 1) movers)) same

-- a robot that collides with none of the others touches none
none_passes : {X : Type 0} (p : X → Bool) (xs : List X) → All (λ x. p x ≡ false) xs → filter p xs ≡ []
none_passes p [] h = refl
none_passes p (x ∷ xs) h = rw (h 0 x (omega arith)) (none_passes p xs (λ k d l. h (suc k) d (omega arith)))

pub touches_none : (movers : List AttemptedMove) (i : ℕ) →
    All (λ m. collides (get_or movers i (attempted_move no_robot)) m ≡ false) (take i movers) →
    All (λ m. collides (get_or movers i (attempted_move no_robot)) m ≡ false) (drop (i + 1) movers) →
    collision_count movers i ≡ 0
unfolding collision_count others
touches_none movers i before after =
    let p = collides (get_or movers i (attempted_move no_robot)) in
    let xs = take i movers ++ drop (i + 1) movers in
    sym (length-filter p xs) ∙
    ap length (none_passes p xs (All-append (λ m. p m ≡ false) (take i movers) (drop (i + 1) movers) before after))

-- two that aren't close don't collide
close_both : (a b : AttemptedMove) → is_close a b ≡ is_close b a
unfolding is_close
close_both a b =
    let x : abs_diff a.to.x b.to.x ≡ abs_diff b.to.x a.to.x = omega arith in
    let y : abs_diff a.to.y b.to.y ≡ abs_diff b.to.y a.to.y = omega arith in
    ap (λ n. nat_lt n 10 && nat_lt (abs_diff a.to.y b.to.y) 10) x ∙
    ap (λ n. nat_lt (abs_diff b.to.x a.to.x) 10 && nat_lt n 10) y

blocked : (a b c d : Bool) → (a && b && false && c && d) ≡ false
blocked false b c d = refl
blocked true false c d = refl
blocked true true c d = refl

collides_not : (a b : AttemptedMove) → is_close a b ≡ false → collides a b ≡ false
unfolding collides
collides_not a b h = rw h (blocked a.live b.live (moves a || moves b) (is_no_further a b))

-- if no pair is close, each touches none
abbrev pub AreApart : List AttemptedMove → ℕ → ℕ → Type 0
AreApart movers a b =
    is_close (get_or movers a (attempted_move no_robot)) (get_or movers b (attempted_move no_robot)) ≡ false

pub untouched : (movers : List AttemptedMove) (i : ℕ) → i < length movers →
    ((a b : ℕ) → a < b → b < length movers → AreApart movers a b) → collision_count movers i ≡ 0
untouched movers i inside apart =
    let m = get_or movers i (attempted_move no_robot) in
    let Passes : AttemptedMove → Type 0 = λ x. collides m x ≡ false in
    touches_none movers i
    (λ k d l.
    let less : k < i = omega (arith, l, length-take i movers) in
    let at = sym (get_or-take i movers k d less ∙ inside_is movers k d (attempted_move no_robot) (omega arith)) in
    subst Passes at
    (collides_not m (get_or movers k (attempted_move no_robot))
    (close_both m (get_or movers k (attempted_move no_robot)) ∙ apart k i less inside)))
    (λ k d l.
    let less : i + 1 + k < length movers = omega (arith, l, length-drop (i + 1) movers) in
    let at = sym (get_or-drop (i + 1) movers k d ∙ inside_is movers (i + 1 + k) d (attempted_move no_robot) less) in
    subst Passes at
    (collides_not m (get_or movers (i + 1 + k) (attempted_move no_robot)) (apart i (i + 1 + k) (omega arith) less)))

-- one robot more is apart from those after it
pub apart_more : (movers : List AttemptedMove) (i : ℕ) (m : AttemptedMove) → i < length movers → m ≡ get_or movers i m →
    ((a b : ℕ) → a < i → a < b → b < length movers → AreApart movers a b) →
    All (λ other. is_close m other ≡ false) (drop (i + 1) movers) → (a b : ℕ) → a < i + 1 → a < b → b < length movers →
    AreApart movers a b
apart_more movers i m inside at before after a b l less last = by_place (cases_lt a i)
  where
    by_place : ((a < i) ⊎ (i ≤ a)) → AreApart movers a b
    by_place (inl early) = before a b early less last
    by_place (inr late) =
        let same : a ≡ i = omega arith in
        let k = b - (i + 1) in
        let b_is : i + 1 + k ≡ b = omega arith in
        let here : m ≡ get_or movers i (attempted_move no_robot) =
        get_or_read movers i m inside at (attempted_move no_robot) in
        let apart = after k (attempted_move no_robot) (omega (arith, length-drop (i + 1) movers)) in
        let there : get_or (drop (i + 1) movers) k (attempted_move no_robot) ≡
        get_or movers b (attempted_move no_robot) =
        get_or-drop (i + 1) movers k (attempted_move no_robot) ∙
        ap (λ n. get_or movers n (attempted_move no_robot)) b_is in
        let both : AreApart movers i b =
        subst (λ x. is_close (get_or movers i (attempted_move no_robot)) x ≡ false) there
        (subst (λ x. is_close x (get_or (drop (i + 1) movers) k (attempted_move no_robot)) ≡ false) here apart) in
        subst (λ n. AreApart movers n b) (sym same) both
