use Rattle.std.proofs.Common.{◌≡◌, ◌<◌, length, map, sum, get_or, sym, ap, ◌∙◌, arith}
use Rattle.std.proofs.lemmas.List.{get_or_read, get_or-map, length-set, length-map}
use Rattle.arena.specs.Field.{no_robot}
use Rattle.arena.specs.Arena.{Robot}
use Rattle.arena.specs.Ahead.{robot_ahead}
use Rattle.arena.specs.Apart.{IsAtPlace}
use Rattle.arena.specs.Due.{burst_damage}
use Rattle.arena.proofs.Loops.{after_at, at_is}
use Rattle.arena.proofs.RobotUpdates.{hurt_at}
use Rattle.arena.proofs.InPlace.{none, one_more, others_stay, all_after}
use Rattle.arena.proofs.updates.hurt_near_bursts.Goals as goal

pub loop-robot-preserved : goal.loop-robot-preserved
loop-robot-preserved c =
    let items = c.loop-robot.robot-items in
    let i = c.loop-robot.robot-index in
    let inv = c.loop-robot.invariant in
    let old = c.robot-item.result in
    let new = c.take_damage.new.self in
    let inside : i < length items = omega (arith, c.loop-robot-test.true, inv.size) in
    let was : old ≡ get_or c.args.robots.now i none =
    get_or_read items i old inside c.robot-item.is none ∙ inv.rest i (omega arith) in
    let there : get_or items i old ≡ get_or c.args.robots.now i none = sym c.robot-item.is ∙ was in
    record {
      size = length-set items i new ∙ inv.size;
      rest = others_stay items c.args.robots.now i new inv.rest;
      robots = λ f u e holds untouched.
          let first : i < length f.robots =
          omega (arith, c.loop-robot-test.true, ap length e, length-map f.robots robot_ahead) in
          let body : get_or items i old ≡ robot_ahead (get_or f.robots i no_robot) =
          there ∙ ap (λ l. get_or l i none) e ∙ get_or-map robot_ahead f.robots i no_robot none first in
          let harms =
          c.harm_by-harm.ensures.value ∙
          ap (λ bs. sum (map (burst_damage c.place.result.x c.place.result.y) bs)) c.as_slice.ensures.value ∙
          c.bursts-bursts.ensures.harm f.updates f.shots u holds c.place.result.x c.place.result.y in
          let burst = rw c.place.ensures at harms in
          one_more (λ k b. b ≡ after_at f k) items i new inside (inv.robots f u e holds untouched)
          (c.take_damage.ensures ∙ hurt_at (get_or f.robots i no_robot) _ c.args.update f.shots _ body burst ∙
          at_is f i _ 0 u (sym (untouched i first)));
      places =
          one_more (λ k (b : Robot). IsAtPlace (get_or c.args.robots.now k none).motion b.motion) items i new inside
          inv.places
          (record {
            on_x = ap (λ (b : Robot). b.motion.x) c.take_damage.ensures ∙ ap (λ (b : Robot). b.motion.x) there;
            on_y = ap (λ (b : Robot). b.motion.y) c.take_damage.ensures ∙ ap (λ (b : Robot). b.motion.y) there;
          });
    }

pub returns-clause-robots : goal.returns-clause-robots
returns-clause-robots c = λ f u e holds untouched.
    let inv = c.loop-robot.invariant in
    let size : length c.loop-robot.robot-items ≡ length f.robots =
    inv.size ∙ ap length e ∙ length-map f.robots robot_ahead in
    all_after f c.loop-robot.robot-items size (λ k l. inv.robots f u e holds untouched k (omega (arith, l, size)))

pub returns-clause-places : goal.returns-clause-places
returns-clause-places c = λ k l. c.loop-robot.invariant.places k (omega arith)
