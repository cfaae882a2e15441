use Rattle.std.proofs.Common.{◌≡◌, ◌+◌, ◌*◌, ◌/◌, ◌%◌, ◌^◌, ◌<◌, ◌≤◌, ℕ, sym, ◌∙◌, arith}
use Rattle.std.proofs.Math.Pow.{shl_exact}
use Rattle.arena.proofs.Newton.{IsNear, start_is, first_near, first_bound, second_near}
use Rattle.arena.proofs.scans.near_root.Goals as goal

power_is : (log : ℕ) → log < 32 → 1 * 2 ^ ((log + 1) / 2) % 4294967296 ≡ 2 ^ ((log + 1) / 2)
power_is log digits =
    let shifted = shl_exact {a = 1} 1 ((log + 1) / 2) 32 (omega arith) (omega arith) in
    let one : 1 * 2 ^ ((log + 1) / 2) ≡ 2 ^ ((log + 1) / 2) = omega arith in
    shifted ∙ one

-- two steps from the power lead near the root
second_step : (n log power first second : ℕ) → 0 < n → n ≤ 2000000 → 2 ^ log ≤ n → n < 2 * 2 ^ log →
    power ≡ 2 ^ ((log + 1) / 2) → first ≡ (power + n / power) / 2 → second ≡ (first + n / first) / 2 → IsNear n second
second_step n log power first second some most low high is one two =
    let start = rw (sym is) at (start_is n log most low high) in
    let near = rw (sym one) at (first_near n power some start) in
    rw two (second_near n first some near (omega (arith, one, first_bound n power start)))

pub newton_iterate-requires-clause-guess : goal.newton_iterate-requires-clause-guess
newton_iterate-requires-clause-guess c =
    let e = c.ilog2.ensures in
    let start = start_is c.args.square c.ilog2.result c.requires.most e.power_le e.next_power_gt in
    rw (power_is c.ilog2.result e.bound) (omega (arith, start.most))

pub newton_iterate-requires-2-clause-guess : goal.newton_iterate-requires-2-clause-guess
newton_iterate-requires-2-clause-guess c =
    let e = c.ilog2.ensures in
    let start = start_is c.args.square c.ilog2.result c.requires.most e.power_le e.next_power_gt in
    let first = rw (power_is c.ilog2.result e.bound) at c.newton_iterate.ensures in
    omega (arith, first, first_bound c.args.square _ start)

pub returns-clause-above : goal.returns-clause-above
returns-clause-above c =
    let e = c.ilog2.ensures in
    (second_step c.args.square c.ilog2.result _ _ _ c.requires.some c.requires.most e.power_le e.next_power_gt
    (power_is c.ilog2.result e.bound) c.newton_iterate.ensures c.newton_iterate-2.ensures).above

pub returns-clause-bound : goal.returns-clause-bound
returns-clause-bound c =
    let e = c.ilog2.ensures in
    (second_step c.args.square c.ilog2.result _ _ _ c.requires.some c.requires.most e.power_le e.next_power_gt
    (power_is c.ilog2.result e.bound) c.newton_iterate.ensures c.newton_iterate-2.ensures).bound
