-- Hits: bursts of a robot's own missiles that hurt another robot.
use Rattle.std.specs.Prelude.{ℕ, Bool, not, ◌&&◌, ◌==◌, nat_lt, length}
use Rattle.std.specs.List.{list_any, range_with_len}
use Rattle.arena.specs.Field.{Field}
use Rattle.arena.specs.declared.bursts.Burst.{Burst}
use Rattle.arena.specs.Outlook.{due, taken_by}

-- In the next update a burst hurts a robot that didn't fire it. Of several that hurt a robot each does, even if one of
-- them or a wall would have been enough to make it dead.
unfoldable pub hurts_another : Field → Burst → Bool
hurts_another field burst =
    list_any (λ other. not (other == burst.robot) && nat_lt 0 (taken_by field other burst))
    (range_with_len 0 (length field.robots))

-- In the next update a missile of a robot bursts and hurts another one. That the robot hurts itself is no hit.
unfoldable pub hits : Field → ℕ → Bool
hits field i = list_any (λ (burst : Burst). (burst.robot == i) && hurts_another field burst) (due field)
