use Rattle.std.proofs.Common.{◌≡◌, ◌<◌, length, get_or, sym, ap, subst, ◌∙◌, arith}
use Rattle.std.proofs.lemmas.List.{get_or_read, length-set, length-map}
use Rattle.arena.specs.Field.{no_robot}
use Rattle.arena.specs.Arena.{Robot, robot_of}
use Rattle.arena.specs.Ahead.{robot_ahead}
use Rattle.arena.specs.Apart.{IsNearby}
use Rattle.arena.proofs.InPlace.{none, one_more, others_stay, all_mapped}
use Rattle.arena.proofs.Represents.{bodies_at}
use Rattle.arena.proofs.updates.move_all.Goals as goal

pub loop-robot-preserved : goal.loop-robot-preserved
loop-robot-preserved c =
    let items = c.loop-robot.robot-items in
    let i = c.loop-robot.robot-index in
    let inv = c.loop-robot.invariant in
    let old = c.robot-item.result in
    let new = c.move_ahead.new.self in
    let inside : i < length items = omega (arith, c.loop-robot-test.true, inv.size) in
    let was : old ≡ get_or c.args.robots.now i none =
    get_or_read items i old inside c.robot-item.is none ∙ inv.rest i (omega arith) in
    record {
      size = length-set items i new ∙ inv.size;
      rest = others_stay items c.args.robots.now i new inv.rest;
      ahead = λ rs e. one_more (λ k b. b ≡ robot_ahead (get_or rs k no_robot)) items i new inside (inv.ahead rs e)
          (c.move_ahead.ensures.ahead (get_or rs i no_robot)
          (sym c.robot-item.is ∙ was ∙ ap (λ l. get_or l i none) e ∙ bodies_at rs i));
      nearby =
          one_more (λ k (b : Robot). IsNearby (get_or c.args.robots.now k none).motion b.motion) items i new inside
          inv.nearby
          (subst (λ (b : Robot). IsNearby b.motion new.motion) (sym c.robot-item.is ∙ was) c.move_ahead.ensures.nearby);
    }

pub returns-clause-ahead : goal.returns-clause-ahead
returns-clause-ahead c = λ rs e.
    let inv = c.loop-robot.invariant in
    let size : length c.loop-robot.robot-items ≡ length rs = inv.size ∙ ap length e ∙ length-map rs robot_of in
    all_mapped robot_ahead rs c.loop-robot.robot-items size (λ k l. inv.ahead rs e k (omega arith))

pub returns-clause-nearby : goal.returns-clause-nearby
returns-clause-nearby c = λ k l. c.loop-robot.invariant.nearby k (omega arith)
