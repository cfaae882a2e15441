use Rattle.std.proofs.Common.{ap, ◌∙◌}
use Rattle.arena.specs.Point.{Point}
use Rattle.arena.specs.Field.{Field, robot_at}
use Rattle.arena.specs.Representing.{RepresentsField}
use Rattle.arena.specs.Collisions.{collision_count}
use Rattle.arena.specs.Moved.{leg_after}
use Rattle.arena.specs.Arena.{Motion, motion_of}
use Rattle.arena.specs.Outlook.{next_leg}
use Rattle.arena.proofs.Represents.{alive_if_lives}
use Rattle.arena.proofs.arenas.Arena.next_place.Goals as goal

pub returns : goal.returns
unfolding next_leg motion_of
returns c =
    let motion = λ (f : Field) (s : RepresentsField c.args.self.now f).
    let r = robot_at f c.args.robot in
    let body = c.robot.ensures.stands f s in
    let live = alive_if_lives c.args.self.now f c.args.robot s c.requires.live in
    let movers =
    c.as_slice.ensures.value ∙ c.movers-movers.ensures.movers f.robots (c.robots.ensures.value ∙ s.robots) in
    let touched = c.robot_collision_count.ensures.value ∙ ap (λ ms. collision_count ms c.args.robot) movers in
    c.motion_after-motion.ensures r (c.move_ahead_as_mover-seen.ensures.ahead r body)
    (c.move_ahead_as_mover-seen.ensures.mover r body) live
    ∙ ap (λ n. motion_of (leg_after r.leg n)) touched in
    record {
      x = λ f s. ap (λ (p : Point). p.x) c.place.ensures ∙ ap (λ (t : Motion). t.x) (motion f s);
      y = λ f s. ap (λ (p : Point). p.y) c.place.ensures ∙ ap (λ (t : Motion). t.y) (motion f s);
    }
