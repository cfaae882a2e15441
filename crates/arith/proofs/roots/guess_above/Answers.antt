use Rattle.std.proofs.Common.{◌≡◌, ◌∙◌, ◌≤◌, ◌<◌, ◌+◌, ◌*◌, ◌/◌, ◌%◌, ◌^◌, arith}
use Rattle.std.proofs.Math.Nat.{pow-le-pow_right}
use Rattle.std.proofs.Math.Pow.{shl_exact}
use Rattle.arith.proofs.RootLemmas.{power_above}
use Rattle.arith.proofs.roots.guess_above.Goals as goal

pub returns : goal.returns
returns c =
    let log = c.ilog2-half.result in
    let above = power_above c.args.square log c.ilog2-half.ensures.next_power_gt in
    let digits : log < 32 = c.ilog2-half.ensures.bound in
    let shifted = shl_exact {a = 1} 1 (log / 2 + 1) 32 (omega arith) (omega arith) in
    let most : 2 ^ (log / 2 + 1) ≤ 2 ^ 16 =
    pow-le-pow_right {n = 2} (omega arith) {i = log / 2 + 1} {j = 16} (omega arith) in
    let one : 1 * 2 ^ (log / 2 + 1) ≡ 2 ^ (log / 2 + 1) = omega arith in
    let value : 1 * 2 ^ (log / 2 + 1) % 4294967296 ≡ 2 ^ (log / 2 + 1) = shifted ∙ one in
    rw value (record { above = above; bound = most })
