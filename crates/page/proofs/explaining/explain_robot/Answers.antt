use Rattle.std.proofs.Common.{refl}
use Rattle.page.proofs.ExplainingLemmas.{no_room}
use Rattle.page.proofs.explaining.explain_robot.Goals as goal

pub returns-then-is_full : goal.returns-then-is_full
returns-then-is_full c =
    no_room c.args.order.now c.args.robots.now c.explain_source-ending.new.sheet (c.in-Some.ensures.refused refl)
    (c.is_full.ensures.full c.if-is_full.true)
