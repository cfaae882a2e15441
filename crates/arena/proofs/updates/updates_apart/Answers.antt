use Rattle.std.proofs.Common.{◌+◌, ◌/◌, ◌≤◌, List, subst, arith}
use Rattle.std.specs.List.{All}
use Rattle.std.proofs.lemmas.List.{take_rest}
use Rattle.arena.specs.Arena.{Robot}
use Rattle.arena.specs.Apart.{gap}
use Rattle.arena.proofs.Calm.{gaps_more}
use Rattle.arena.proofs.updates.updates_apart.Goals as goal

pub loop-i-preserved : goal.loop-i-preserved
loop-i-preserved c =
    let robots = c.args.robots.now in
    let i = c.loop-i.i in
    let m = c.index-robots-i.result in
    let next = c.least_gap-least.result in
    let after =
    subst (λ (bs : List Robot). All (λ (other : Robot). next / 100000 ≤ gap m.motion other.motion) bs)
    (take_rest robots (i + 1))
    c.least_gap-least.ensures.least in
    gaps_more robots i m (c.loop-i.least / 100000) (next / 100000) (omega (arith, c.least_gap-least.ensures.less))
    c.loop-i-test.true c.index-robots-i.is
    c.loop-i.invariant after

pub returns : goal.returns
returns c = record { gaps = λ a b less last some. omega (arith, c.loop-i.invariant a b (omega arith) less last) }
