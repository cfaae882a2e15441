use Rattle.std.proofs.Common.{List, subst, arith}
use Rattle.std.specs.List.{All}
use Rattle.std.proofs.lemmas.List.{take_all}
use Rattle.arena.specs.Arena.{Robot}
use Rattle.arena.specs.Still.{Stays}
use Rattle.arena.proofs.arenas.all_stay.Goals as goal

pub returns : goal.returns
returns c = λ e.
    let all = take_all c.loop-robot.robot-index c.args.robots.now (omega arith) in
    subst (λ (bs : List Robot). All Stays bs) all c.loop-robot.invariant
