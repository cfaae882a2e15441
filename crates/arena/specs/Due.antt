-- What the bursts of an update do.
use Rattle.std.specs.Prelude.{◌≡◌, ℕ, List, map, sum}
use Rattle.arena.specs.Field.{Shot}
use Rattle.arena.specs.Collisions.{square}
use Rattle.arena.specs.Shots.{ring, bursts}
use Rattle.arena.specs.Outlook.{Burst}

-- the damage of a burst at a place
unfoldable pub burst_damage : ℕ → ℕ → Burst → ℕ
burst_damage x y burst = ring (square x y burst.at.x burst.at.y)

-- at every place these bursts do what all shots do in an update
abbrev pub HarmLikeShots : ℕ → List Shot → List Burst → Type 0
HarmLikeShots update shots due = (x y : ℕ) → sum (map (burst_damage x y) due) ≡ sum (bursts update shots x y)
