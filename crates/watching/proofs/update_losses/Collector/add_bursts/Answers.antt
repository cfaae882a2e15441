use Rattle.std.proofs.Common.{rules, ◌≡◌, ◌∷◌, [], arith, get_or, map, take}
use Rattle.std.proofs.lemmas.List.{take_all}
use Rattle.watching.specs.Losses.{hurt}
use Rattle.watching.proofs.Losing.{collects_more, collects_none, hurts_more}
use Rattle.watching.proofs.update_losses.Collector.add_bursts.Goals as goal

pub loop-burst-init : goal.loop-burst-init
loop-burst-init c = λ f stands. collects_none c.args.self.now

pub loop-burst-preserved : goal.loop-burst-preserved
loop-burst-preserved c = λ f stands.
    let i = c.args.robot in
    let n = c.loop-burst.burst-index in
    let bursts = c.args.bursts.now in
    let none = c.burst-item.result in
    let same : get_or bursts n none ≡ none = search rules in
    rw (hurts_more f i n bursts none (omega (arith, c.loop-burst-test.true)), same)
    (collects_more c.args.self.now c.loop-burst.self c.add_burst.new.self (map (hurt f i) (take n bursts))
    (hurt f i none ∷ []) (c.loop-burst.invariant f stands) (c.add_burst.ensures f stands))

pub returns : goal.returns
returns c = λ f stands.
    rw (take_all c.loop-burst.burst-index c.args.bursts.now (omega arith)) at (c.loop-burst.invariant f stands)
