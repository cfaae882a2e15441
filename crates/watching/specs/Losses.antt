-- What the next update takes from a robot, part by part.
use Rattle.std.specs.Prelude.{ℕ, ℤ, pos, ◌≡◌, ◌+◌, ◌-◌, ◌≤◌, min, nat_eq, if◌then◌else◌, List, [], ◌∷◌, ◌++◌, codes, filter, length, map}
use Rattle.std.specs.List.{range_with_len}
use Rattle.arena.specs.declared.bursts.Burst.{Burst}
use Rattle.arena.specs.Field.{Field, damage_of, robot_at}
use Rattle.arena.specs.Moved.{moved}
use Rattle.arena.specs.Outlook.{collides_with, due, meets_wall, taken_by}
use Rattle.arena.specs.Rules.{deadly, knock_damage, wall_damage}
use Rattle.watching.specs.declared.update_losses.Collector.{Collector}
use Rattle.watching.specs.declared.update_losses.Loss.{Loss}
use Rattle.watching.specs.declared.update_losses.Source.{Source}
use Rattle.watching.specs.declared.update_losses.Source.TheVariants.{Wall, Collision, Shot}

-- what a wall would take, each robot that it meets, and each burst
abbrev pub wall_losses : Field → ℕ → List Loss
wall_losses field i = if meets_wall field i then record { source = Wall; percent = wall_damage } ∷ [] else []

abbrev pub knock : ℕ → Loss
knock other = record { source = Collision other; percent = knock_damage }

-- one robot's part of these
abbrev pub knock_losses : Field → (i other : ℕ) → List Loss
knock_losses field i other = if collides_with field i other then knock other ∷ [] else []

abbrev pub knocks : Field → ℕ → List Loss
knocks field i = map knock (filter (collides_with field i) (range_with_len 0 (length field.robots)))

abbrev pub hurt : Field → ℕ → Burst → Loss
hurt field i burst =
    record { source = Shot burst.robot burst.at.x burst.at.y; percent = taken_by field i burst }

abbrev pub hurts : Field → ℕ → List Loss
hurts field i = map (hurt field i) (due field)

abbrev pub total : List Loss → ℕ
total [] = 0
total (loss ∷ losses) = loss.percent + total losses

-- as far as this much is left: what takes nothing is no loss
abbrev pub part : (left : ℕ) → Loss → List Loss
part left loss = if nat_eq (min loss.percent left) 0 then [] else record loss { percent = min loss.percent left } ∷ []

abbrev pub within : (left : ℕ) → List Loss → List Loss
within left [] = []
within left (loss ∷ losses) = part left loss ++ within (left - loss.percent) losses

-- a collector took these, as far as it has room
pub record Collects (old : Collector) (losses : List Loss) (new : Collector) : Type 0 where
  pub left : new.left ≡ old.left - total losses
  pub all : length old.all.items + length losses ≤ 13 → new.all.items ≡ old.all.items ++ within old.left losses

-- the losses of a robot, in this order
unfoldable pub losses_of : Field → ℕ → List Loss
losses_of field i =
    within (deadly - damage_of (robot_at field i)) (wall_losses field i ++ knocks field i ++ hurts field i)

-- They are what the update adds to its damage.
abbrev pub LossesAddUp : Field → ℕ → List Loss → Type 0
LossesAddUp field i losses = damage_of (robot_at (moved field) i) ≡ damage_of (robot_at field i) + total losses

-- the word and the numbers that tell of a loss: how much, by whom, and where that one's shot bursts
abbrev pub loss_word : Source → List ℕ
loss_word Wall = codes "wall"
loss_word (Collision other) = codes "collision"
loss_word (Shot by x y) = codes "hurt"

abbrev pub number_of : ℕ → ℤ
number_of robot = pos (min robot 4 + 1)

abbrev pub loss_numbers : Loss → List ℤ
loss_numbers loss = pos loss.percent ∷ source_numbers loss.source
  where
    source_numbers : Source → List ℤ
    source_numbers Wall = []
    source_numbers (Collision other) = number_of other ∷ []
    source_numbers (Shot by x y) = number_of by ∷ pos x ∷ pos y ∷ []
