-- Products of signed numbers.
use Rattle.std.proofs.Common.{◌≡◌, ◌+◌, ◌*◌, ℤ, neg_ℤ, ◌+ℤ◌, ◌-ℤ◌, ◌*ℤ◌, refl, ap, ◌∙◌, arith}
use Rattle.std.proofs.lemmas.Int.{ints}
use borrow.Author.Differences.{up, down, sum_is_lem, product_is, neg_is}

pub distributes : (k a b : ℤ) → k *ℤ (a +ℤ b) ≡ k *ℤ a +ℤ k *ℤ b
distributes k a b =
    let s = sum_is_lem a b in
    let u = ap (λ x. up k * x) s in
    let d = ap (λ x. down k * x) s in
    omega (arith, ints, u, d)

pub distributes_less : (k a b : ℤ) → k *ℤ (a -ℤ b) ≡ k *ℤ a -ℤ k *ℤ b
distributes_less k a b =
    let s : up (a -ℤ b) + down a + up b ≡ down (a -ℤ b) + up a + down b = omega (arith, ints) in
    let u = ap (λ x. up k * x) s in
    let d = ap (λ x. down k * x) s in
    omega (arith, ints, u, d)

pub commutes : (a b : ℤ) → a *ℤ b ≡ b *ℤ a
commutes a b = omega (arith, ints)

pub swap : (a b c : ℤ) → a *ℤ (b *ℤ c) ≡ b *ℤ (a *ℤ c)
swap a b c =
    let p = product_is b c in
    let q = product_is a c in
    let pu = ap (λ x. up a * x) p.0 in
    let pd = ap (λ x. down a * x) p.1 in
    let qu = ap (λ x. up b * x) q.0 in
    let qd = ap (λ x. down b * x) q.1 in
    let pu2 = ap (λ x. down a * x) p.0 in
    let pd2 = ap (λ x. up a * x) p.1 in
    let qu2 = ap (λ x. down b * x) q.0 in
    let qd2 = ap (λ x. up b * x) q.1 in
    omega (arith, ints, pu, pd, qu, qd, pu2, pd2, qu2, qd2)

pub negated : (a b : ℤ) → neg_ℤ a *ℤ b ≡ neg_ℤ (a *ℤ b)
negated a b =
    let n = neg_is a in
    let u = ap (λ x. x * up b) n.0 in
    let d = ap (λ x. x * down b) n.1 in
    let u2 = ap (λ x. x * down b) n.0 in
    let d2 = ap (λ x. x * up b) n.1 in
    omega (arith, ints, u, d, u2, d2)

-- a scaled sum of two products
pub scaled : (k px py x y : ℤ) → k *ℤ (px *ℤ x +ℤ py *ℤ y) ≡ px *ℤ (k *ℤ x) +ℤ py *ℤ (k *ℤ y)
scaled k px py x y = distributes k (px *ℤ x) (py *ℤ y) ∙ rw (swap k px x, swap k py y) refl
