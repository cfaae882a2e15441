use Rattle.std.proofs.Common.{◌<◌, length, inl, refl, ap, ◌∙◌, arith}
use Rattle.std.proofs.lemmas.List.{length-map, take_all}
use Rattle.arena.specs.Field.{no_robot, robot_at}
use Rattle.arena.specs.Scan.{sees}
use Rattle.arena.specs.Nearer.{square_to}
use Rattle.arena.specs.Arena.{robot_of}
use Rattle.arena.proofs.Loops.{mapped_is}
use Rattle.arena.proofs.Nearest.{none_yet, one_more, none_more}
use Rattle.arena.proofs.scans.nearest.Goals as goal
use Rattle.arena.proofs.scans.nearest.Goals.{then-i-robot, else-i-robot}

pub loop-i-init : goal.loop-i-init
loop-i-init c = record {
  square = inl refl;
  nearest = λ field e.
      none_yet (square_to (robot_at field c.args.robot))
      (sees (robot_at field c.args.robot) c.args.degree c.args.resolution) c.args.robot;
}

pub loop-i-preserved : goal.loop-i-preserved
unfolding robot_at
loop-i-preserved c = record {
  square = elim c.if-i-robot.branch [
    | then-i-robot w ↦ rw w.nearest-is w.nearer-nearest.ensures.square
    | else-i-robot w ↦ rw w.nearest-is c.loop-i.invariant.square
  ];
  nearest = λ field e.
      let i = c.args.robot in
      let from = robot_at field i in
      let p = sees from c.args.degree c.args.resolution in
      let size = ap length e ∙ length-map field.robots robot_of in
      let inside : c.loop-i.i < length field.robots = omega (arith, size, c.loop-i-test.true, c.loop-i.auto.i-end) in
      let here = mapped_is robot_of _ field.robots _ _ no_robot e c.requires.inside c.index-robots-robot.is in
      let there =
      mapped_is robot_of _ field.robots _ _ no_robot e (omega (arith, size, inside)) c.index-robots-i.is in
      let so_far = c.loop-i.invariant.nearest field e in
      elim c.if-i-robot.branch [
        | then-i-robot w ↦
            let is = c.of_robot-from.ensures from here in
            let arc = c.new-arc.ensures in
            let value = rw (arc.degree, arc.resolution) at (w.nearer-nearest.ensures.value from _ is there) in
            let seen = rw (arc.degree, arc.resolution) at (w.nearer-nearest.ensures.seen from _ is there) in
            rw w.nearest-is
            (one_more (square_to from) p field.robots c.loop-i.i i no_robot c.loop-i.nearest _ inside
            w.if-i-robot.true so_far value seen)
        | else-i-robot w ↦
            rw w.nearest-is
            (none_more (square_to from) p field.robots c.loop-i.i i no_robot c.loop-i.nearest inside
            w.if-i-robot.false so_far)
      ];
}

pub returns-clause-nearest : goal.returns-clause-nearest
returns-clause-nearest c = λ field e.
    let size = ap length e ∙ length-map field.robots robot_of in
    let all =
    take_all c.loop-i.i field.robots (omega (arith, size, c.loop-i-test.false, c.loop-i.auto.i-end)) in
    rw all at (c.loop-i.invariant.nearest field e)

pub returns-clause-square : goal.returns-clause-square
returns-clause-square c = c.loop-i.invariant.square
