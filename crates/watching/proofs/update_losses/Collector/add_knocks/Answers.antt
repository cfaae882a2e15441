use Rattle.std.proofs.Common.{◌≡◌, arith, length}
use Rattle.watching.specs.Losses.{knock_losses}
use Rattle.watching.proofs.Losing.{collects_more, collects_none, knocks_more, knocks_to}
use Rattle.watching.proofs.update_losses.Collector.add_knocks.Goals as goal

pub loop-other-init : goal.loop-other-init
loop-other-init c = λ f stands. collects_none c.args.self.now

pub loop-other-preserved : goal.loop-other-preserved
loop-other-preserved c = λ f stands.
    let i = c.args.robot in
    let n = c.loop-other.other in
    rw (knocks_more f i n)
    (collects_more c.args.self.now c.loop-other.self c.add_knock.new.self (knocks_to f i n) (knock_losses f i n)
    (c.loop-other.invariant f stands) (c.add_knock.ensures f stands))

pub returns : goal.returns
returns c = λ f stands.
    let all : c.loop-other.other ≡ length f.robots =
    omega (arith, c.loop-other-test.false, c.loop-other.auto, c.robot_count-other-end.ensures.stands f stands) in
    rw all at (c.loop-other.invariant f stands)
