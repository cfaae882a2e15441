-- Newton's iteration down to the root of a squared distance.
use Rattle.std.proofs.Common.{◌≡◌, ◌⊎◌, inl, inr, ℕ, ◌+◌, ◌*◌, ◌/◌, ◌^◌, ◌<◌, ◌≤◌, pos, unsigned_abs, ap, arith}
use Rattle.std.proofs.lemmas.Nat.{mul-le, pow-add}
use Rattle.std.proofs.Math.Nat.{div-mul-le_self, pow-le-pow_right}
use Rattle.std.proofs.lemmas.Bool.{cases_lt}
use Rattle.arith.specs.Root.{root_of}
use Rattle.arith.proofs.RootLemmas.{iterate_above, some_root, root_gives}

-- the power of 2 near the root
few_digits : (n log : ℕ) → 2 ^ log ≤ n → n ≤ 2000000 → log ≤ 20
few_digits n log low most = by_size (cases_lt 20 log)
  where
    by_size : ((20 < log) ⊎ (log ≤ 20)) → log ≤ 20
    by_size (inl h) = let more = pow-le-pow_right {n = 2} (omega arith) {i = 21} {j = log} h in absurd (omega arith)
    by_size (inr h) = h

-- a number goes less often than q into another one
goes_less : (n p q : ℕ) → n < q * p → n / p < q
goes_less n p q h = by_size (cases_lt (n / p) q)
  where
    by_size : ((n / p < q) ⊎ (q ≤ n / p)) → n / p < q
    by_size (inl l) = l
    by_size (inr l) =
        absurd (omega (arith, mul-le q p (n / p) p l (omega arith), div-mul-le_self n p))

pub record IsNear (n guess : ℕ) : Type 0 where
  pub above : n < (guess + 1) * (guess + 1)
  pub some : 0 < guess
  pub bound : guess ≤ 2000

-- a power of 2 near the root, and the mean of it and of how often it goes into the number
pub record IsStart (n power : ℕ) : Type 0 where
  pub some : 0 < power
  pub most : power ≤ 1024
  pub often : n / power < 2 * power

pub start_is : (n log : ℕ) → n ≤ 2000000 → 2 ^ log ≤ n → n < 2 * 2 ^ log → IsStart n (2 ^ ((log + 1) / 2))
start_is n log most low high =
    let k = (log + 1) / 2 in
    let p = 2 ^ k in
    let digits = few_digits n log low most in
    let small : p ≤ 2 ^ 10 = pow-le-pow_right {n = 2} (omega arith) {i = k} {j = 10} (omega arith) in
    let one : 2 ^ 0 ≤ p = pow-le-pow_right {n = 2} (omega arith) {i = 0} {j = k} (omega arith) in
    let twice : 2 ^ (k + k) ≡ p * p = pow-add 2 k k in
    let up : 2 ^ log ≤ 2 ^ (k + k) = pow-le-pow_right {n = 2} (omega arith) {i = log} {j = k + k} (omega arith) in
    record { some = omega arith; most = omega arith; often = goes_less n p (2 * p) (omega arith) }

-- the guess after it, and a further iterate from there, which leads up by 1 at most
pub first_near : (n power : ℕ) → 0 < n → IsStart n power → IsNear n ((power + n / power) / 2)
first_near n power some is =
    let above = iterate_above n power is.some in
    record {
      above = above;
      some = some_root n ((power + n / power) / 2) some above;
      bound = omega (arith, is.most, is.often);
    }

pub first_bound : (n power : ℕ) → IsStart n power → (power + n / power) / 2 ≤ 1536
first_bound n power is = omega (arith, is.most, is.often)

pub second_near : (n guess : ℕ) → 0 < n → IsNear n guess → guess ≤ 1536 → IsNear n ((guess + n / guess) / 2)
second_near n guess some near most =
    let often : n / guess < guess + 3 = goes_less n guess (guess + 3) (omega (arith, near.above, near.some)) in
    let above = iterate_above n guess near.some in
    record {
      above = above;
      some = some_root n ((guess + n / guess) / 2) some above;
      bound = omega (arith, most, often);
    }

-- an iterate from a guess above the root leads down, and not below the root
pub next_near : (n guess : ℕ) → 0 < n → IsNear n guess → n < guess * guess → IsNear n ((guess + n / guess) / 2)
next_near n guess some near over =
    let less = goes_less n guess guess over in
    let above = iterate_above n guess near.some in
    record {
      above = above;
      some = some_root n ((guess + n / guess) / 2) some above;
      bound = omega (arith, near.bound);
    }

-- a guess that isn't above the root is the root
pub root_is : (n guess : ℕ) → n ≤ 2000000 → IsNear n guess → guess * guess ≤ n → guess ≡ unsigned_abs (root_of (pos n))
root_is n guess most near fits = ap unsigned_abs (root_gives (pos n) guess (omega arith) fits near.above)
