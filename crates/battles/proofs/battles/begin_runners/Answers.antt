use Rattle.std.proofs.Common.{◌≡◌, ◌<◌, length, take, arith}
use Rattle.std.proofs.lemmas.List.{take_all, take_more_set}
use Rattle.battles.proofs.Beginnings.{fits_more, stands_more}
use Rattle.battles.proofs.battles.begin_runners.Goals as goal

pub loop-robot-preserved : goal.loop-robot-preserved
loop-robot-preserved c =
    let inside : c.loop-robot.robot < length c.loop-robot.runners = omega arith in
    let more = take_more_set c.loop-robot.runners c.loop-robot.robot c.restart.new.self inside in
    record {
      fits = rw more
          (fits_more _ c.args.executables.now _ _ _ c.loop-robot.invariant.fits c.executable.ensures
          c.restart.ensures.fits);
      begins = rw more
          (stands_more _ c.args.executables.now _ _ _ c.loop-robot.invariant.begins c.executable.ensures
          c.restart.ensures.begins);
    }

pub returns-clause-fits : goal.returns-clause-fits
returns-clause-fits c =
    let here : take c.loop-robot.robot c.loop-robot.runners ≡ c.loop-robot.runners = take_all _ _ (omega arith) in
    let there : take c.loop-robot.robot c.args.executables.now ≡ c.args.executables.now =
    take_all _ _ (omega arith) in
    rw (here, there) at c.loop-robot.invariant.fits

pub returns-clause-begins : goal.returns-clause-begins
returns-clause-begins c =
    let here : take c.loop-robot.robot c.loop-robot.runners ≡ c.loop-robot.runners = take_all _ _ (omega arith) in
    let there : take c.loop-robot.robot c.args.executables.now ≡ c.args.executables.now =
    take_all _ _ (omega arith) in
    let all : c.loop-robot.robot ≡ length c.args.executables.now = omega arith in
    rw (here, there, all) at c.loop-robot.invariant.begins
