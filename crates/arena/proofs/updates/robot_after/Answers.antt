use Rattle.std.proofs.Common.{◌≡◌, sym, ap, ◌∙◌, false, true}
use Rattle.arena.specs.Field.{is_alive}
use Rattle.arena.specs.Collisions.{AttemptedMove, attempted_move}
use Rattle.arena.specs.Arena.{Robot, robot_of}
use Rattle.arena.specs.Ahead.{robot_ahead}
use Rattle.arena.proofs.RobotUpdates.{dead_is, dead_stays, alive_is}
use Rattle.arena.proofs.updates.robot_after.Goals as goal

pub returns-then-not-seen : goal.returns-then-not-seen
unfolding attempted_move
returns-then-not-seen c = λ r update shots same e m.
    let dead : is_alive r ≡ false = sym (ap (λ (m : AttemptedMove). m.live) m) ∙ c.if-not-seen.true in
    e ∙ dead_stays r dead ∙ ap robot_of (dead_is r update shots c.args.touched dead)

pub returns : goal.returns
unfolding attempted_move robot_ahead
returns c = λ r update shots same e m.
    let live : is_alive r ≡ true = sym (ap (λ (m : AttemptedMove). m.live) m) ∙ c.if-not-seen.false in
    let leg = c.motion_after-motion.ensures r e m live in
    let burst = rw c.place.ensures at (c.harm_by-harm.ensures.value ∙ same c.place.result.x c.place.result.y) in
    let walled = c.damage.ensures.value ∙ ap (λ (b : Robot). b.damage) e in
    c.new.ensures ∙
    alive_is r c.motion_after-motion.result update shots c.args.touched c.damage.result
    c.harm_by-harm.result c.damage_after.result live leg walled burst c.damage_after.ensures.value
