-- The root of a greater number isn't less.
use Rattle.std.proofs.Common.{◌≡◌, ℕ, zero, suc, ◌+◌, ◌*◌, ◌/◌, ◌≤◌, nat_le, cond, pos, unsigned_abs, refl, arith, inl, inr}
use Rattle.std.proofs.lemmas.Nat.{mul-le}
use Rattle.std.proofs.lemmas.Bool.{cases_lt}
use Rattle.std.proofs.lemmas.Bool.Decides.{leb_tells}
use Rattle.arith.specs.Root.{root_by_quarters, root_of}

-- one more digit
digit_grows : (r s a b : ℕ) → r ≤ s → a ≤ b →
    cond (nat_le ((2 * r + 1) * (2 * r + 1)) a) (2 * r + 1) (2 * r) ≤
    cond (nat_le ((2 * s + 1) * (2 * s + 1)) b) (2 * s + 1) (2 * s)
digit_grows r s a b h l =
    elim (leb_tells ((2 * r + 1) * (2 * r + 1)) a) [
      | inl p ↦ elim (leb_tells ((2 * s + 1) * (2 * s + 1)) b) [
        | inl q ↦ rw (p.0, q.0) (omega arith)
        | inr q ↦ elim (cases_lt r s) [
          | inl less ↦ rw (p.0, q.0) (omega arith)
          | inr not ↦ let e : s ≡ r =
              omega arith in absurd
              (omega
              (arith, p.1, q.1, mul-le (2 * s + 1) (2 * s + 1) (2 * r + 1) (2 * r + 1) (omega arith) (omega arith)))
        ]
      ]
      | inr p ↦ elim (leb_tells ((2 * s + 1) * (2 * s + 1)) b) [
        | inl q ↦ rw (p.0, q.0) (omega arith)
        | inr q ↦ rw (p.0, q.0) (omega arith)
      ]
    ]

by_quarters_grows : (digits a b : ℕ) → a ≤ b → root_by_quarters digits a ≤ root_by_quarters digits b
unfolding root_by_quarters
by_quarters_grows zero a b h = omega arith
by_quarters_grows (suc digits) a b h =
    digit_grows (root_by_quarters digits (a / 4)) (root_by_quarters digits (b / 4)) a b
    (by_quarters_grows digits (a / 4) (b / 4) (omega arith)) h

pub root_grows : (a b : ℕ) → a ≤ b → unsigned_abs (root_of (pos a)) ≤ unsigned_abs (root_of (pos b))
unfolding root_of
root_grows a b h = by_quarters_grows 16 a b h

pub root_of_0 : unsigned_abs (root_of (pos 0)) ≡ 0
unfolding root_of root_by_quarters
root_of_0 = refl

pub root_of_1 : unsigned_abs (root_of (pos 1)) ≡ 1
unfolding root_of root_by_quarters
root_of_1 = refl
