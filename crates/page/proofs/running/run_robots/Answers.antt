use Rattle.std.proofs.Common.{List, refl}
use Rattle.series.specs.Compiling.{SourceFile}
use Rattle.series.specs.Output.{Runs}
use Rattle.series.specs.Pieces.{Taken}
use Rattle.settings.specs.Settings.{Settings}
use Rattle.page.specs.Orders.{mode_by}
use Rattle.page.specs.Running.{taken_by}
use Rattle.page.proofs.RunningLemmas.{by_robots, ends_with, only_full}
use Rattle.page.proofs.running.run_robots.Goals as goal

pub returns : goal.returns
returns c =
    let order = c.args.order.now in
    let robots = c.args.robots.now in
    rw c.ended.ensures
    (ends_with order robots c.run-ran.result c.run-ran.new.out c.run-ran.new.err (c.in-Some.ensures.refused refl)
    (by_robots
    (λ (setup : Settings) (sources : List SourceFile) (before : Taken).
    Runs setup sources c.run-ran.result before (taken_by c.run-ran.new.out c.run-ran.new.err)) (mode_by order.mode)
    order robots c.in-Some.settings _ c.clear.new.self c.clear-2.new.self
    (rw c.mode.ensures at c.in-Some.ensures.value)
    (rw c.as_mut_slice.ensures.value c.feeds_of-feeds.ensures.bytes)
    c.clear.ensures.text c.clear-2.ensures.text c.run-ran.ensures.output)
    (only_full c.as_mut_slice.result.now c.run-ran.new.feeds c.run-ran.result _ _ c.run-ran.new.out c.run-ran.new.err
    c.run-ran.ensures.failures))
