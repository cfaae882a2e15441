-- The nearest of the robots that are seen, one after another.
use Rattle.std.proofs.Common.{◌≡◌, ◌⊎◌, inl, inr, ℕ, unsigned_abs, ◌+◌, ◌<◌, ◌≤◌, min, max, zero, suc, pos, Bool, true, false, List, [], ◌∷◌, ◌++◌, length, take, drop, map, cond, get_or, append-nil, append_assoc, refl, sym, ap, ◌∙◌, arith}
use Rattle.std.specs.List.{fold, filter}
use Rattle.std.proofs.lemmas.List.{map-append, take_more, take_all, drop_all, take-append-le, drop-append-le, length-take-le}
use Rattle.std.proofs.lemmas.List.Elements.{filter-append}
use Rattle.std.proofs.lemmas.List.Sums.{fold-append}
use Rattle.std.proofs.lemmas.Bool.{ne_eqb, cases_lt}
use Rattle.arith.specs.Root.{root_of}
use Rattle.arena.proofs.Roots.{root_grows, root_of_0, root_of_1}
use Rattle.arena.specs.Field.{FieldRobot, Field, robot_at}
use Rattle.arena.specs.Collisions.{square, others}
use Rattle.arena.specs.Scan.{sees, range_of, nearest, scanned}
use Rattle.arena.specs.Nearer.{square_to, out_of_sight, IsSquare, IsLeast, range_at}

strictly : (k i : ℕ) → i ≤ k → (k ≡ i → ⊥) → i + 1 ≤ k
strictly k i h differs = by_order (cases_lt i k)
  where
    by_order : ((i < k) ⊎ (k ≤ i)) → i + 1 ≤ k
    by_order (inl less) = omega (arith, less)
    by_order (inr most) = absurd (differs (omega (arith, h, most)))

-- the others of n robots and one more: it is the one that scans, or one of them
pub others_same : {X : Type 0} (xs : List X) (k i : ℕ) (d : X) → k < length xs → k ≡ i →
    others (take (k + 1) xs) i ≡ others (take k xs) i
unfolding others
others_same xs k i d inside e =
    let size = length-take-le k xs (omega arith) in
    let size_more = length-take-le (k + 1) xs (omega arith) in
    let one : take i (take k xs) ≡ take k xs = take_all i (take k xs) (omega (arith, size)) in
    let two : take i (take (k + 1) xs) ≡ take k xs =
    ap (take i) (take_more xs k d inside) ∙ take-append-le i (take k xs) (get_or xs k d ∷ []) (omega (arith, size)) ∙
    one in
    let none = drop_all (i + 1) (take k xs) (omega (arith, size)) in
    let none_more = drop_all (i + 1) (take (k + 1) xs) (omega (arith, size_more)) in
    rw (none, none_more) (ap (λ l. l ++ []) (two ∙ sym one))

pub others_more : {X : Type 0} (xs : List X) (k i : ℕ) (d : X) → k < length xs → (k ≡ i → ⊥) →
    others (take (k + 1) xs) i ≡ others (take k xs) i ++ get_or xs k d ∷ []
unfolding others
others_more xs k i d inside differs = by_order (cases_lt k i)
  where
    size : length (take k xs) ≡ k
    size = length-take-le k xs (omega (arith, inside))

    by_order : ((k < i) ⊎ (i ≤ k)) →
        take i (take (k + 1) xs) ++ drop (i + 1) (take (k + 1) xs) ≡
        (take i (take k xs) ++ drop (i + 1) (take k xs)) ++ get_or xs k d ∷ []
    by_order (inl before) =
        let size_more = length-take-le (k + 1) xs (omega (arith, inside)) in
        rw (
          take_all i (take (k + 1) xs) (omega (arith, size_more, before)),
          drop_all (i + 1) (take (k + 1) xs) (omega (arith, size_more, before)),
          take_all i (take k xs) (omega (arith, size, before)),
          drop_all (i + 1) (take k xs) (omega (arith, size, before)),
          append-nil (take (k + 1) xs),
          append-nil (take k xs),
        ) (take_more xs k d inside)
    by_order (inr not_before) =
        let after : i + 1 ≤ k = strictly k i not_before differs in
        rw (
          take_more xs k d inside,
          take-append-le i (take k xs) (get_or xs k d ∷ []) (omega (arith, size, not_before)),
          drop-append-le (i + 1) (take k xs) (get_or xs k d ∷ []) (omega (arith, size, after)),
        ) (sym (append_assoc (take i (take k xs)) (drop (i + 1) (take k xs)) (get_or xs k d ∷ [])))

others_none : {X : Type 0} (none : List X) (i : ℕ) → none ≡ [] → others none i ≡ []
unfolding others
others_none none i e =
    let size : length none ≡ 0 = ap length e in
    rw (take_all i none (omega (arith, size)), drop_all (i + 1) none (omega (arith, size))) (append-nil none ∙ e)

pub none_yet : {X : Type 0} (f : X → ℕ) (p : X → Bool) (i : ℕ) →
    IsLeast out_of_sight (map f (filter p (others [] i)))
none_yet f p i = rw (others_none [] i refl) (record { least = refl; none = λ e. refl })

-- one more of the others, which is seen or not
pub one_more : {X : Type 0} (f : X → ℕ) (p : X → Bool) (xs : List X) (k i : ℕ) (d : X) (so_far next : ℕ) →
    k < length xs → (k ≡ i → ⊥) → IsLeast so_far (map f (filter p (others (take k xs) i))) →
    next ≡ cond (p (get_or xs k d)) (min so_far (f (get_or xs k d))) so_far →
    (p (get_or xs k d) ≡ true → next ≤ 2000000) →
    IsLeast next (map f (filter p (others (take (k + 1) xs) i)))
one_more f p xs k i d so_far next inside differs before is near = by_sight (p (get_or xs k d)) refl
  where
    by_sight : (b : Bool) → p (get_or xs k d) ≡ b → IsLeast next (map f (filter p (others (take (k + 1) xs) i)))
    by_sight true seen =
        let small = near seen in
        rw (
          others_more xs k i d inside differs,
          filter-append p (others (take k xs) i) (get_or xs k d ∷ []),
          seen,
          map-append f (filter p (others (take k xs) i)) (get_or xs k d ∷ []),
        )
        (record {
          least = is ∙
              rw (
                seen,
                fold-append min out_of_sight (map f (filter p (others (take k xs) i))) (f (get_or xs k d) ∷ []),
                sym before.least,
              ) refl;
          none = λ e. absurd (omega arith);
        })
    by_sight false unseen =
        let same : next ≡ so_far = is ∙ rw unseen refl in
        rw (
          others_more xs k i d inside differs,
          filter-append p (others (take k xs) i) (get_or xs k d ∷ []),
          unseen,
          append-nil (filter p (others (take k xs) i)),
          same,
        ) before

-- the one that scans is passed over
pub none_more : {X : Type 0} (f : X → ℕ) (p : X → Bool) (xs : List X) (k i : ℕ) (d : X) (so_far : ℕ) →
    k < length xs → k ≡ i → IsLeast so_far (map f (filter p (others (take k xs) i))) →
    IsLeast so_far (map f (filter p (others (take (k + 1) xs) i)))
none_more f p xs k i d so_far inside same before = rw (others_same xs k i d inside same) before

-- the range of the nearest is that of the least square, since the root of a greater number isn't less

abbrev pub whole : ℕ → ℕ
whole n = max 1 (unsigned_abs (root_of (pos n)))

pub at_least_1 : (n : ℕ) → whole n ≡ unsigned_abs (root_of (pos (max n 1)))
at_least_1 zero = let none = root_of_0 in let one = root_of_1 in omega arith
at_least_1 (suc n) =
    let one = root_of_1 in
    let more = root_grows 1 (suc n) (omega arith) in
    let same : max (suc n) 1 ≡ suc n = omega arith in
    rw same (omega arith)

range_is : (a b : FieldRobot) → range_of a b ≡ whole (square_to a b)
unfolding range_of square_to
range_is a b = refl

min_whole : (a b : ℕ) → min (whole a) (whole b) ≡ whole (min a b)
min_whole a b = elim (cases_lt a b) [
  | inl h ↦ let grows = root_grows a b (omega arith) in let least : min a b ≡ a = omega arith in rw least (omega arith)
  | inr h ↦ let grows = root_grows b a h in let least : min a b ≡ b = omega arith in rw least (omega arith)
]

least_whole : {X : Type 0} (f : X → ℕ) (n : ℕ) (xs : List X) →
    fold min (whole n) (map (λ x. whole (f x)) xs) ≡ whole (fold min n (map f xs))
least_whole f n [] = refl
least_whole f n (x ∷ xs) =
    ap (λ m. fold min m (map (λ x. whole (f x)) xs)) (min_whole n (f x)) ∙ least_whole f (min n (f x)) xs

each_same : {X : Type 0} (f g : X → ℕ) (xs : List X) → ((x : X) → f x ≡ g x) → map f xs ≡ map g xs
each_same f g [] h = refl
each_same f g (x ∷ xs) h = ap (λ n. n ∷ map f xs) (h x) ∙ ap (λ ns. g x ∷ ns) (each_same f g xs h)

-- a first number that is no less than `most` counts as `most`
least_below : (most n : ℕ) (ns : List ℕ) → fold min (min most n) ns ≡ min most (fold min n ns)
least_below most n [] = refl
least_below most n (m ∷ ns) =
    let same : min (min most n) m ≡ min most (min n m) = omega arith in
    ap (λ k. fold min k ns) same ∙ least_below most (min n m) ns

-- what a squared distance has as its range
pub in_sight : (square : ℕ) → square ≤ 2000000 → range_at square ≡ whole square
unfolding range_at
in_sight square h = rw (ne_eqb square 4294967295 (λ e. omega arith)) refl

nearest_in_sight : {X : Type 0} (f : X → ℕ) (least : ℕ) (xs : List X) → least ≤ 2000000 →
    IsLeast least (map f xs) → range_at least ≡ nearest (map (λ x. whole (f x)) xs)
unfolding nearest
nearest_in_sight f least [] h is = absurd (omega (arith, h, is.least))
nearest_in_sight f least (x ∷ xs) h is =
    let below = least_below out_of_sight (f x) (map f xs) in
    let same : least ≡ fold min (f x) (map f xs) = omega (arith, h, is.least, below) in
    in_sight least h ∙ ap whole same ∙ sym (least_whole f (f x) xs)

nearest_is : {X : Type 0} (f : X → ℕ) (least : ℕ) (xs : List X) → IsSquare least → IsLeast least (map f xs) →
    range_at least ≡ nearest (map (λ x. whole (f x)) xs)
unfolding nearest range_at
nearest_is f least [] (inl e) is = rw e refl
nearest_is f least (x ∷ xs) (inl e) is = let size = ap length (is.none e) in absurd (omega (arith, size))
nearest_is f least xs (inr h) is = nearest_in_sight f least xs h is

-- a scan answers the range at the least of the squares
pub scan_is : (field : Field) (i degree resolution least range : ℕ) → IsSquare least →
    IsLeast least
    (map (square_to (robot_at field i))
    (filter (sees (robot_at field i) degree resolution) (others field.robots i))) →
    range ≡ range_at least →
    range ≡ scanned field i degree resolution
unfolding scanned
scan_is field i degree resolution least range square is r =
    let from = robot_at field i in
    let seen = filter (sees from degree resolution) (others field.robots i) in
    r ∙ nearest_is (square_to from) least seen square is ∙
    ap nearest (sym (each_same (range_of from) (λ x. whole (square_to from x)) seen (range_is from)))
