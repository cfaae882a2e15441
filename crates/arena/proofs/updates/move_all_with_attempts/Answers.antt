use Rattle.std.proofs.Common.{◌≡◌, ◌<◌, length, get_or, sym, ap, ◌∙◌, arith}
use Rattle.std.proofs.lemmas.List.{get_or_read, length-set, length-map}
use Rattle.arena.specs.Field.{no_robot}
use Rattle.arena.specs.Collisions.{attempted_move}
use Rattle.arena.specs.Arena.{robot_of}
use Rattle.arena.specs.Ahead.{robot_ahead}
use Rattle.arena.proofs.Loops.{pushed_map}
use Rattle.arena.proofs.InPlace.{none, one_more, others_stay, all_mapped}
use Rattle.arena.proofs.Represents.{bodies_at}
use Rattle.arena.proofs.SlotLaws.{inside_is}
use Rattle.arena.proofs.updates.move_all_with_attempts.Goals as goal

pub loop-robot-preserved : goal.loop-robot-preserved
loop-robot-preserved c =
    let items = c.loop-robot.robot-items in
    let i = c.loop-robot.robot-index in
    let inv = c.loop-robot.invariant in
    let old = c.robot-item.result in
    let new = c.move_ahead_as_mover.new.self in
    let inside : i < length items = omega (arith, c.loop-robot-test.true, inv.size) in
    let was : old ≡ get_or c.args.robots.now i none =
    get_or_read items i old inside c.robot-item.is none ∙ inv.rest i (omega arith) in
    record {
      size = length-set items i new ∙ inv.size;
      count = omega arith;
      rest = others_stay items c.args.robots.now i new inv.rest;
      ahead = λ rs e. one_more (λ k b. b ≡ robot_ahead (get_or rs k no_robot)) items i new inside (inv.ahead rs e)
          (c.move_ahead_as_mover.ensures.ahead (get_or rs i no_robot)
          (sym c.robot-item.is ∙ was ∙ ap (λ l. get_or l i none) e ∙ bodies_at rs i));
      movers =
          λ rs e. pushed_map robot_of attempted_move c.args.robots.now rs _ _ i old _ no_robot e c.loop-robot-test.true
          (was ∙ inside_is c.args.robots.now i none old c.loop-robot-test.true)
          (λ at. c.move_ahead_as_mover.ensures.mover _ (sym c.robot-item.is ∙ at)) (inv.movers rs e)
          c.push.ensures.items;
    }

pub returns-clause-ahead : goal.returns-clause-ahead
returns-clause-ahead c = λ rs e.
    let inv = c.loop-robot.invariant in
    let size : length c.loop-robot.robot-items ≡ length rs = inv.size ∙ ap length e ∙ length-map rs robot_of in
    all_mapped robot_ahead rs c.loop-robot.robot-items size (λ k l. inv.ahead rs e k (omega arith))
