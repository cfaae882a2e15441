use Rattle.std.proofs.Common.{◌<◌, length, add-one, arith}
use Rattle.watching.specs.Shots.{marked}
use Rattle.watching.proofs.Marks.{changed_more}
use Rattle.watching.proofs.shots.mark.Goals as goal

pub loop-shot-preserved : goal.loop-shot-preserved
loop-shot-preserved c =
    let within : c.loop-shot.shot-index < length c.args.shots.now = omega (arith, c.loop-shot-test.true) in
    rw (c.loop-shot.invariant, add-one c.loop-shot.shot-index)
    (changed_more (marked c.args.update c.args.place) c.args.shots.now c.loop-shot.shot-index c.shot-item.result
    c.mark.new.self within (rw c.loop-shot.invariant at c.mark.ensures))
