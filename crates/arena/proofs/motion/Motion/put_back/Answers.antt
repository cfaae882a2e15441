use Rattle.std.proofs.Common.{◌∙◌, ap}
use Rattle.arena.specs.Leg.{place_x}
use Rattle.arena.specs.Moved.{put_back}
use Rattle.arena.specs.Arena.{motion_of}
use Rattle.arena.proofs.motion.Motion.put_back.Goals as goal

pub returns : goal.returns
unfolding put_back
returns c = λ old leg p q e.
    c.stopped_at.ensures.leg leg e ∙
    ap
    (λ n. motion_of
    (record leg { origin_x = n; origin_y = c.args.place.y; distance = 0; speed = 0; wanted_speed = 0 })) p ∙
    ap
    (λ n. motion_of (record leg { origin_x = place_x old; origin_y = n; distance = 0; speed = 0; wanted_speed = 0 })) q
