use Rattle.std.proofs.Common.{◌≡◌, true, false, nat_lt, refl, ap, ◌∙◌, arith}
use Rattle.std.proofs.lemmas.Bool.Decides.{nat_tests}
use Rattle.arena.specs.Leg.{stopped_by_walls, place_x, place_y}
use Rattle.arena.specs.Collisions.{AttemptedMove, leg_alone, attempted_move}
use Rattle.arena.specs.Moved.{leg_after}
use Rattle.arena.specs.Arena.{Robot, motion_of}
use Rattle.arena.specs.Ahead.{robot_ahead}
use Rattle.arena.proofs.robots.Robot.motion_after.Goals as goal

pub returns-then-touched-gt0 : goal.returns-then-touched-gt0
unfolding robot_ahead attempted_move leg_alone leg_after
returns-then-touched-gt0 c = λ robot e m live.
    let drove : leg_alone robot ≡ stopped_by_walls robot.leg = rw live refl in
    let motion : c.self.inside.motion ≡ motion_of (stopped_by_walls robot.leg) =
    ap (λ (b : Robot). b.motion) (c.self.view_is ∙ e) ∙ ap motion_of drove in
    let x : c.args.seen.now.from.x ≡ place_x robot.leg = ap (λ (m : AttemptedMove). m.from.x) m in
    let y : c.args.seen.now.from.y ≡ place_y robot.leg = ap (λ (m : AttemptedMove). m.from.y) m in
    let some : nat_lt 0 c.args.touched ≡ true = grind (arith, nat_tests) in
    rw some (c.put_back.ensures robot.leg (stopped_by_walls robot.leg) x y motion)

pub returns : goal.returns
unfolding robot_ahead leg_alone leg_after
returns c = λ robot e m live.
    let drove : leg_alone robot ≡ stopped_by_walls robot.leg = rw live refl in
    let none : nat_lt 0 c.args.touched ≡ false = grind (arith, nat_tests) in
    rw none (ap (λ (b : Robot). b.motion) (c.self.view_is ∙ e) ∙ ap motion_of drove)
