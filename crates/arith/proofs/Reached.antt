-- How many degrees begin at a number or before it. Each begins after the one before it, so these are
-- the degrees up to the last of them.
use Rattle.std.proofs.Common.{◌≡◌, ℕ, zero, suc, ◌+◌, ◌-◌, ◌<◌, ◌≤◌, Bool, true, false, nat_le, cond, refl, ap, ◌∙◌, arith}
use Rattle.std.specs.List.{range_with_len, count_by}
use Rattle.std.proofs.lemmas.List.Sums.{sum_by-cons}
use Rattle.std.proofs.lemmas.Bool.{leb-true, le-leb, lt-leb}
use Rattle.arith.specs.Arctangent.{bound_of, quarter, degrees_reached}
use Rattle.arith.specs.Table.{tangents}
use Rattle.arith.proofs.Below.{passes_below, passes_at}

-- whether the degree after this one begins no later than the next
is_in_order : ℕ → Bool
is_in_order d = nat_le (bound_of (d + 1)) (bound_of (d + 2))

all_in_order : passes_below is_in_order 89 ≡ true
unfolding bound_of is_in_order tangents
all_in_order = refl

in_order : (d : ℕ) → d < 89 → bound_of (d + 1) ≤ bound_of (d + 2)
unfolding is_in_order
in_order d h = leb-true (bound_of (d + 1)) (bound_of (d + 2)) (passes_at is_in_order 89 all_in_order d h)

rise : (i d : ℕ) → 1 ≤ i → i + d ≤ 90 → bound_of i ≤ bound_of (i + d)
rise i zero some most = let same : i + 0 ≡ i = omega arith in rw same (omega arith)
rise i (suc d) some most =
    let before = rise i d some (omega (arith, most)) in
    let here : i + d - 1 + 1 ≡ i + d = omega (arith, some) in
    let there : i + d - 1 + 2 ≡ i + suc d = omega (arith, some) in
    let next = rw here at (rw there at (in_order (i + d - 1) (omega (arith, some, most)))) in
    omega (arith, before, next)

-- the first k of m numbers are counted
count_front : (p : ℕ → Bool) (a m k : ℕ) → k ≤ m → ((i : ℕ) → a ≤ i → i < a + k → p i ≡ true) →
    ((i : ℕ) → a + k ≤ i → i < a + m → p i ≡ false)
    → count_by p (range_with_len a m) ≡ k
count_front p a zero k most within beyond = omega (arith, most)
count_front p a (suc m) zero most within beyond =
    let first : count_by p (range_with_len a (suc m)) ≡ 0 + count_by p (range_with_len (a + 1) m) =
    sum_by-cons (λ y. cond (p y) 1 0) a (range_with_len (a + 1) m)
    ∙ ap (λ b. cond b 1 0 + count_by p (range_with_len (a + 1) m)) (beyond a (omega arith) (omega arith))
    in
    let rest =
    count_front p (a + 1) m zero (omega arith) (λ i low high. absurd (omega (arith, low, high)))
    (λ i low high. beyond i (omega (arith, low)) (omega (arith, high))) in
    omega (arith, first, rest)
count_front p a (suc m) (suc k) most within beyond =
    let first : count_by p (range_with_len a (suc m)) ≡ 1 + count_by p (range_with_len (a + 1) m) =
    sum_by-cons (λ y. cond (p y) 1 0) a (range_with_len (a + 1) m)
    ∙ ap (λ b. cond b 1 0 + count_by p (range_with_len (a + 1) m)) (within a (omega arith) (omega arith))
    in
    let rest =
    count_front p (a + 1) m k (omega (arith, most))
    (λ i low high. within i (omega (arith, low)) (omega (arith, high)))
    (λ i low high. beyond i (omega (arith, low)) (omega (arith, high))) in
    omega (arith, first, rest)

pub reached_is : (n k : ℕ) → k ≤ 90 → (0 < k → bound_of k ≤ n) → (k < 90 → n < bound_of (k + 1)) → degrees_reached n ≡ k
unfolding degrees_reached quarter
reached_is n k most last next =
    count_front (λ i. nat_le (bound_of i) n) 1 90 k most
    (λ i from below.
    let same : i + (k - i) ≡ k = omega (arith, below) in
    let up : bound_of i ≤ bound_of (i + (k - i)) = rise i (k - i) from (omega (arith, same, most)) in
    le-leb (bound_of i) n (omega (arith, rw same at up, last (omega (arith, from, below)))))
    (λ i from below.
    let same : k + 1 + (i - (k + 1)) ≡ i = omega (arith, from) in
    let up : bound_of (k + 1) ≤ bound_of (k + 1 + (i - (k + 1))) =
    rise (k + 1) (i - (k + 1)) (omega arith) (omega (arith, same, below)) in
    lt-leb (bound_of i) n (omega (arith, rw same at up, next (omega (arith, from, below)))))
