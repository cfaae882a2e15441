use Rattle.std.proofs.Common.{◌≡◌, ◌+◌, ◌*◌, ap, ◌∙◌, map, arith}
use Rattle.std.specs.List.{range_with_len}
use Rattle.arena.specs.Random.{generator}
use Rattle.arena.specs.Start.{drawn_robot, start}
use Rattle.arena.specs.Arena.{robot_of}
use Rattle.arena.proofs.Beginnings.{robot_is, drawn_more}
use Rattle.arena.proofs.starts.drawn_robots.Goals as goal

pub loop-i-preserved : goal.loop-i-preserved
loop-i-preserved c = record {
  count = omega arith;
  words = λ seed number e.
      let next : 1 + 2 * c.loop-i.i + 2 ≡ 1 + 2 * (c.loop-i.i + 1) = omega arith in
      c.drawn_robot.ensures.words seed number _ (c.loop-i.invariant.words seed number e) ∙
      ap (generator seed number) next;
  robots = λ seed number e.
      let robot = c.drawn_robot.ensures.robot seed number _ (c.loop-i.invariant.words seed number e) in
      drawn_more seed number c.loop-i.i _ _ _ (c.loop-i.invariant.robots seed number e)
      (robot ∙ robot_is seed number c.loop-i.i _ (c.draw_word-first.ensures.word seed number 0 e)) c.push.ensures.items;
}

pub returns-clause-robots : goal.returns-clause-robots
unfolding start
returns-clause-robots c = λ seed number e.
    let end : c.loop-i.i ≡ c.args.n = omega arith in
    c.loop-i.invariant.robots seed number e ∙
    ap (λ k. map robot_of (map (drawn_robot seed number) (range_with_len 0 k))) end
