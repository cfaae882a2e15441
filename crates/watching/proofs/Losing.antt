-- The parts of what an update takes add up.
use Rattle.std.proofs.Common.{◌≡◌, ℕ, zero, suc, ◌+◌, ◌-◌, ◌*◌, ◌≤◌, ◌<◌, cond, min, List, [], ◌∷◌, ◌++◌, length, map, take, get_or, refl, sym, ap, ap₂, ◌∙◌, arith, inl, inr, append_assoc, append-nil, add-one, zero-add}
use Rattle.std.specs.Prelude.{count_by, filter, nat_eq, sum, sum_by}
use Rattle.std.specs.List.{range_with_len}
use Rattle.std.proofs.lemmas.Bool.{cases_Bool}
use Rattle.std.proofs.lemmas.Bool.Decides.{nat_tests}
use Rattle.std.proofs.lemmas.List.{length-append, length-map, map-append, take_more}
use Rattle.std.proofs.lemmas.List.Elements.{filter-append}
use Rattle.std.proofs.lemmas.List.FromFn.{length-range_with_len}
use Rattle.std.proofs.lemmas.List.Sums.{count_by-le-length, length-filter, sum-map, sum_by-cons}
use Rattle.arena.specs.Field.{Field, damage_of, robot_at}
use Rattle.arena.specs.declared.bursts.Burst.{Burst}
use Rattle.arena.specs.Outlook.{AddsUp, collides_with, damage_taken, due, meets_wall, taken_by}
use Rattle.arena.specs.Rules.{deadly}
use Rattle.watching.specs.declared.update_losses.Collector.{Collector}
use Rattle.watching.specs.declared.update_losses.Loss.{Loss}
use Rattle.watching.specs.Losses.{Collects, LossesAddUp, hurt, hurts, knock, knock_losses, knocks, losses_of, part, total, wall_losses, within}

pub total-append : (xs ys : List Loss) → total (xs ++ ys) ≡ total xs + total ys
total-append [] ys = omega arith
total-append (loss ∷ xs) ys = let rest = total-append xs ys in omega (arith, rest)

-- more losses are taken as far as the ones before leave something
pub within-append : (left : ℕ) (xs ys : List Loss) →
    within left (xs ++ ys) ≡ within left xs ++ within (left - total xs) ys
within-append left [] ys = ap (λ n. within n ys) (omega arith)
within-append left (loss ∷ xs) ys =
    let rest = within-append (left - loss.percent) xs ys in
    let after : left - loss.percent - total xs ≡ left - (loss.percent + total xs) = omega arith in
    ap (λ l. part left loss ++ l) rest
    ∙ sym (append_assoc (part left loss) (within (left - loss.percent) xs) (within (left - loss.percent - total xs) ys))
    ∙ ap (λ n. (part left loss ++ within (left - loss.percent) xs) ++ within n ys) after

length-part : (left : ℕ) (loss : Loss) → length (part left loss) ≤ 1
length-part left loss = elim (cases_Bool (nat_eq (min loss.percent left) 0)) [
  | inl none ↦ rw none (omega arith)
  | inr some ↦ rw some (omega arith)
]

pub length-within : (left : ℕ) (losses : List Loss) → length (within left losses) ≤ length losses
length-within left [] = omega arith
length-within left (loss ∷ losses) =
    let rest = length-within (left - loss.percent) losses in
    let one = length-part left loss in
    omega (arith, one, rest, length-append (part left loss) (within (left - loss.percent) losses))

total-part : (left : ℕ) (loss : Loss) → total (part left loss) ≡ min loss.percent left
total-part left loss = elim (cases_Bool (nat_eq (min loss.percent left) 0)) [
  | inl none ↦ rw none (grind (arith, nat_tests))
  | inr some ↦ rw some (omega arith)
]

-- they are as much as there is, or as is taken
pub total-within : (left : ℕ) (losses : List Loss) → total (within left losses) ≡ min (total losses) left
total-within left [] = omega arith
total-within left (loss ∷ losses) =
    let rest = total-within (left - loss.percent) losses in
    let one = total-part left loss in
    omega (arith, one, rest, total-append (part left loss) (within (left - loss.percent) losses))

-- a collector takes one list after another
pub collects_none : (c : Collector) → Collects c [] c
collects_none c = record { left = omega arith; all = λ room. sym (append-nil c.all.items) }

pub collects_more : (a b c : Collector) (xs ys : List Loss) → Collects a xs b → Collects b ys c →
    Collects a (xs ++ ys) c
collects_more a b c xs ys first second = record {
  left = omega (arith, first.left, second.left, total-append xs ys);
  all = λ room.
      let fits : length a.all.items + length xs ≤ 13 = omega (arith, room, length-append xs ys) in
      let taken = first.all fits in
      let less : length b.all.items ≤ length a.all.items + length xs =
      omega (arith, ap length taken, length-append a.all.items (within a.left xs), length-within a.left xs) in
      second.all (omega (arith, room, less, length-append xs ys))
      ∙ ap₂ (λ (l : List Loss) n. l ++ within n ys) taken first.left
      ∙ append_assoc a.all.items (within a.left xs) (within (a.left - total xs) ys)
      ∙ ap (λ l. a.all.items ++ l) (sym (within-append a.left xs ys));
}

-- what other robots take, robot by robot
range_more : (a n : ℕ) → range_with_len a (n + 1) ≡ range_with_len a n ++ (a + n) ∷ []
range_more a zero = ap (λ m. m ∷ []) (omega arith)
range_more a (suc n) =
    rw add-one
    (ap (λ l. a ∷ l) (sym (ap (range_with_len (a + 1)) (add-one n)) ∙ range_more (a + 1) n)
    ∙ ap (λ m. a ∷ range_with_len (a + 1) n ++ m ∷ []) (omega arith))

abbrev pub knocks_to : Field → (i n : ℕ) → List Loss
knocks_to f i n = map knock (filter (collides_with f i) (range_with_len 0 n))

pub knocks_more : (f : Field) (i n : ℕ) → knocks_to f i (n + 1) ≡ knocks_to f i n ++ knock_losses f i n
knocks_more f i n =
    let p = collides_with f i in
    ap (λ l. map knock (filter p l)) (range_more 0 n ∙ ap (λ m. range_with_len 0 n ++ m ∷ []) (zero-add n))
    ∙ ap (map knock) (filter-append p (range_with_len 0 n) (n ∷ []))
    ∙ map-append knock (filter p (range_with_len 0 n)) (filter p (n ∷ []))
    ∙ ap (λ l. knocks_to f i n ++ l) (elim (cases_Bool (p n)) [
      | inl meets ↦ rw meets refl
      | inr misses ↦ rw misses refl
    ])

-- and what bursts take, burst by burst
pub hurts_more : (f : Field) (i n : ℕ) (bursts : List Burst) (none : Burst) → n < length bursts
    → map (hurt f i) (take (n + 1) bursts) ≡ map (hurt f i) (take n bursts) ++ hurt f i (get_or bursts n none) ∷ []
hurts_more f i n bursts none inside =
    ap (map (hurt f i)) (take_more bursts n none inside)
    ∙ map-append (hurt f i) (take n bursts) (get_or bursts n none ∷ [])

-- all of it is what the update takes
total-walls : (f : Field) (i : ℕ) → total (wall_losses f i) ≡ cond (meets_wall f i) 2 0
total-walls f i = elim (cases_Bool (meets_wall f i)) [
  | inl meets ↦ rw meets refl
  | inr misses ↦ rw misses refl
]

total-knocks : (others : List ℕ) → total (map knock others) ≡ 2 * length others
total-knocks [] = refl
total-knocks (other ∷ others) = let rest = total-knocks others in omega (arith, rest)

total-hurts : (f : Field) (i : ℕ) (bursts : List Burst)
    → total (map (hurt f i) bursts) ≡ sum_by (taken_by f i) bursts
total-hurts f i [] = refl
total-hurts f i (burst ∷ bursts) =
    ap (λ n. taken_by f i burst + n) (total-hurts f i bursts) ∙ sym (sum_by-cons (taken_by f i) burst bursts)

-- in the order of the parts
abbrev pub wanted : Field → ℕ → List Loss
wanted f i = wall_losses f i ++ knocks f i ++ hurts f i

total-wanted : (f : Field) (i : ℕ) → total (wanted f i) ≡ damage_taken f i
unfolding damage_taken
total-wanted f i =
    let others = filter (collides_with f i) (range_with_len 0 (length f.robots)) in
    let bursts : total (hurts f i) ≡ sum (map (taken_by f i) (due f)) =
    total-hurts f i (due f) ∙ sym (sum-map (taken_by f i) (due f)) in
    let met : total (knocks f i) ≡ 2 * count_by (collides_with f i) (range_with_len 0 (length f.robots)) =
    total-knocks others
    ∙ ap (λ n. 2 * n) (length-filter (collides_with f i) (range_with_len 0 (length f.robots))) in
    total-append (wall_losses f i ++ knocks f i) (hurts f i)
    ∙ ap₂ (λ a b. a + b) (total-append (wall_losses f i) (knocks f i) ∙ ap₂ (λ a b. a + b) (total-walls f i) met) bursts

length-walls : (f : Field) (i : ℕ) → length (wall_losses f i) ≤ 1
length-walls f i = elim (cases_Bool (meets_wall f i)) [
  | inl meets ↦ rw meets (omega arith)
  | inr misses ↦ rw misses (omega arith)
]

length-knocks : (f : Field) (i : ℕ) → length (knocks f i) ≤ length f.robots
length-knocks f i =
    let others = range_with_len 0 (length f.robots) in
    let met : length (knocks f i) ≡ count_by (collides_with f i) others =
    length-map (filter (collides_with f i) others) knock ∙ length-filter (collides_with f i) others in
    omega (arith, met, count_by-le-length (collides_with f i) others, length-range_with_len 0 (length f.robots))

-- a collector that began empty and took them all has the losses
pub collected : (f : Field) (i : ℕ) (empty full : Collector) → empty.left ≡ deadly - damage_of (robot_at f i)
    → empty.all.items ≡ [] → Collects empty (wanted f i) full → length f.robots ≤ 4 → length (due f) ≤ 8
    → full.all.items ≡ losses_of f i
unfolding losses_of
collected f i empty full left none took few bursts =
    let fits : length empty.all.items + length (wanted f i) ≤ 13 =
    omega (
      arith,
      ap length none,
      few,
      bursts,
      length-map (due f) (hurt f i),
      length-walls f i,
      length-knocks f i,
      length-append (wall_losses f i ++ knocks f i) (hurts f i),
      length-append (wall_losses f i) (knocks f i),
    ) in
    took.all fits ∙ ap₂ (λ (l : List Loss) n. l ++ within n (wanted f i)) none left

-- and they add up
pub losses_add_up : (f : Field) (i : ℕ) → i < length f.robots → AddsUp f → LossesAddUp f i (losses_of f i)
unfolding losses_of damage_of
losses_add_up f i inside adds =
    let grown = adds i inside in
    let taken = total-within (deadly - damage_of (robot_at f i)) (wanted f i) in
    let all = total-wanted f i in
    omega (arith, grown, taken, all)
