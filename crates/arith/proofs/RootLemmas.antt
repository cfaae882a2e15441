-- The root by quarters is the whole root: there is one number whose square fits and whose next square does not.
use Rattle.std.proofs.Common.{◌≡◌, ℕ, zero, suc, ◌+◌, ◌*◌, ◌/◌, ◌^◌, ◌-◌, ◌<◌, ◌≤◌, nat_le, cond, ℤ, pos, unsigned_abs, ap, arith, inl, inr}
use Rattle.std.proofs.lemmas.Nat.{mul-le, pow-add}
use Rattle.std.proofs.lemmas.Grind.{pow_more}
use Rattle.std.proofs.Math.Nat.{lt-div-mul-add, pow-le-pow_right}
use Rattle.std.proofs.lemmas.Bool.{cases_lt}
use Rattle.std.proofs.lemmas.Bool.Decides.{leb_tells}
use Rattle.std.proofs.lemmas.Int.{to_z-of_z, to_z_pos}
use Rattle.arith.specs.Root.{root_by_quarters, root_of}

-- n lies from one square up to the next
pub record Straddles (root n : ℕ) : Type 0 where
  pub square : root * root ≤ n
  pub next_square : n < (root + 1) * (root + 1)

root_le : (r s n : ℕ) → r * r ≤ n → n < (s + 1) * (s + 1) → r ≤ s
root_le r s n below above =
    elim (cases_lt s r) [
      | inl h ↦ absurd (omega (arith, mul-le (s + 1) (s + 1) r r (omega arith) (omega arith)))
      | inr h ↦ h
    ]

pub one_root : (r s n : ℕ) → Straddles r n → Straddles s n → r ≡ s
one_root r s n a b =
    let low = root_le r s n a.square b.next_square in
    let high = root_le s r n b.square a.next_square in
    omega arith

-- one digit: from the root of a quarter
doubled : (q n : ℕ) → Straddles q (n / 4) →
    Straddles (cond (nat_le ((2 * q + 1) * (2 * q + 1)) n) (2 * q + 1) (2 * q)) n
doubled q n s =
    let low : 4 * (q * q) ≤ n = omega (arith, s.square) in
    let high : n < 4 * ((q + 1) * (q + 1)) = omega (arith, s.next_square) in
    elim (leb_tells ((2 * q + 1) * (2 * q + 1)) n) [
      | inl h ↦ rw h.0 (record { square = h.1; next_square = omega arith })
      | inr h ↦ rw h.0 (record { square = omega arith; next_square = h.1 })
    ]

pub root_by_quarters_is : (digits n : ℕ) → n < 4 ^ digits → Straddles (root_by_quarters digits n) n
unfolding root_by_quarters
root_by_quarters_is zero n h = record { square = omega arith; next_square = omega arith }
root_by_quarters_is (suc digits) n h =
    doubled (root_by_quarters digits (n / 4)) n (root_by_quarters_is digits (n / 4) (omega arith))

-- what the code's root gives
pub root_gives : (a : ℤ) (r : ℕ) → unsigned_abs a ≤ 2 ^ 31 → r * r ≤ unsigned_abs a →
    unsigned_abs a < (r + 1) * (r + 1) → pos r ≡ root_of a
unfolding root_of
root_gives a r small square next_square =
    ap pos
    (one_root r _ (unsigned_abs a) (record { square = square; next_square = next_square })
    (root_by_quarters_is 16 (unsigned_abs a) (omega arith)))

pub ruleset root_rules = (to_z-of_z, to_z_pos, root_gives)

-- four times a product is at most the square of the sum
sum_squared : (a b : ℕ) → 4 * (a * b) ≤ (a + b) * (a + b)
sum_squared a b = elim (cases_lt a b) [
  | inl h ↦ let d = b - a in let e : b ≡ a + d = omega arith in rw e (omega arith)
  | inr h ↦ let d = a - b in let e : a ≡ b + d = omega arith in rw e (omega arith)
]

-- Newton's iterate from a guess that isn't 0 isn't below the root, nor below a guess that isn't above the root
pub iterate_above : (n guess : ℕ) → 0 < guess → n < ((guess + n / guess) / 2 + 1) * ((guess + n / guess) / 2 + 1)
iterate_above n guess some =
    let q = n / guess in
    let y = (guess + n / guess) / 2 in
    let less : n < q * guess + guess = lt-div-mul-add {a = n} {b = guess} some in
    let mean = sum_squared guess (q + 1) in
    let half : guess + (q + 1) ≤ 2 * (y + 1) = omega arith in
    let squares = mul-le (guess + (q + 1)) (guess + (q + 1)) (2 * (y + 1)) (2 * (y + 1)) half half in
    omega arith

-- a number above 0 has a root above 0
pub some_root : (n root : ℕ) → 0 < n → n < (root + 1) * (root + 1) → 0 < root
some_root n zero some above = absurd (omega arith)
some_root n (suc root) some above = omega arith

-- the power of 2 from half of the digits
pub power_above : (n log : ℕ) → n < 2 * 2 ^ log → n < 2 ^ (log / 2 + 1) * 2 ^ (log / 2 + 1)
power_above n log h =
    let k = log / 2 + 1 in
    let twice : 2 ^ (k + k) ≡ 2 ^ k * 2 ^ k = pow-add 2 k k in
    let more : 2 ^ (log + 1) ≡ 2 ^ log * 2 = pow_more 2 log in
    let up : 2 ^ (log + 1) ≤ 2 ^ (k + k) =
    pow-le-pow_right {n = 2} (omega arith) {i = log + 1} {j = k + k} (omega arith) in
    omega arith
