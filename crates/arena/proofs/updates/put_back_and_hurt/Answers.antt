use Rattle.std.proofs.Common.{◌≡◌, ◌<◌, length, get_or, sym, ap, ◌∙◌, arith}
use Rattle.std.proofs.lemmas.List.{get_or_read, get_or-map, length-set, length-map}
use Rattle.arena.specs.Field.{no_robot}
use Rattle.arena.specs.Collisions.{attempted_move, collision_count}
use Rattle.arena.specs.Ahead.{robot_ahead}
use Rattle.arena.proofs.Loops.{mapped_is, after_at, at_is}
use Rattle.arena.proofs.DueBursts.{same_harm}
use Rattle.arena.proofs.InPlace.{none, one_more, others_stay, all_after}
use Rattle.arena.proofs.updates.put_back_and_hurt.Goals as goal

pub loop-i-preserved : goal.loop-i-preserved
loop-i-preserved c =
    let robots = c.loop-i.robots in
    let i = c.loop-i.i in
    let inv = c.loop-i.invariant in
    let old = c.index-robots-i.result in
    let new = c.robot_after.result in
    let inside : i < length robots = omega arith in
    let first : i < length c.args.robots.now = omega (arith, inside, inv.size) in
    let was : old ≡ get_or c.args.robots.now i none =
    get_or_read robots i old inside c.index-robots-i.is none ∙ inv.rest i (omega arith) in
    record {
      size = length-set robots i new ∙ inv.size;
      rest = others_stay robots c.args.robots.now i new inv.rest;
      robots = λ f u e m holds.
          let within : i < length f.robots = omega (arith, first, ap length e, length-map f.robots robot_ahead) in
          let body =
          sym c.index-robots-i.is ∙ was ∙ ap (λ l. get_or l i none) e ∙
          get_or-map robot_ahead f.robots i no_robot none within in
          let seen =
          mapped_is attempted_move _ f.robots _ _ no_robot m (omega (arith, first, c.requires.count))
          c.index-movers-i.is in
          let bursts =
          same_harm c.args.update f.shots _ _ c.as_slice.ensures.value
          (c.bursts-bursts.ensures.harm f.updates f.shots u holds) in
          let touched = c.robot_collision_count-touched.ensures.value ∙ ap (λ l. collision_count l i) m in
          one_more (λ k b. b ≡ after_at f k) robots i new inside (inv.robots f u e m holds)
          (c.robot_after.ensures (get_or f.robots i no_robot) c.args.update f.shots bursts body seen ∙
          at_is f i _ _ u touched);
    }

pub returns : goal.returns
returns c = λ f u e m holds.
    let inv = c.loop-i.invariant in
    let size : length c.loop-i.robots ≡ length f.robots = inv.size ∙ ap length e ∙ length-map f.robots robot_ahead in
    all_after f c.loop-i.robots size (λ k l. inv.robots f u e m holds k (omega (arith, l, size)))
