-- When a field is still: an update then changes nothing but the number of updates. And when the next missile bursts.
use Rattle.std.specs.Prelude.{◌≡◌, ◌⊎◌, ℕ, zero, suc, ◌≤◌, List, [], All}
use Rattle.arena.specs.Rules.{deadly, turning_speed}
use Rattle.arena.specs.Field.{Field}
use Rattle.arena.specs.Sums.{IsInField}
use Rattle.arena.specs.Arena.{Motion, Robot, Missile}
use Rattle.arena.specs.Moved.{moved}

-- a robot at rest inside the field: it has no speed, and wants none and no other heading
pub record IsAtRest (motion : Motion) : Type 0 where
  pub stands : motion.speed ≡ 0
  pub wants_none : motion.wanted_speed ≡ 0
  pub heads : motion.wanted_heading ≡ motion.heading
  pub inside : IsInField motion.east × IsInField motion.north

-- a robot that turns in an update, and keeps the speed that it has
pub record OnlyTurns (motion : Motion) : Type 0 where
  pub turns : motion.wanted_heading ≡ motion.heading → ⊥
  pub slow : motion.speed ≤ turning_speed
  pub keeps : motion.speed ≡ motion.wanted_speed

-- an update without bursts leaves a robot as it is: it is dead, or at rest
abbrev pub Stays : Robot → Type 0
Stays robot = (robot.damage ≡ deadly) ⊎ IsAtRest robot.motion

-- all robots stay, and no missile is in the air
pub record IsStill (robots : List Robot) (slots : List (List Missile)) : Type 0 where
  pub stay : All Stays robots
  pub none_flies : All (λ s. s ≡ []) slots

-- the field after n updates
unfoldable pub moved_times : ℕ → Field → Field
moved_times zero field = field
moved_times (suc n) field = moved (moved_times n field)

-- no missile in the air bursts before an update
abbrev pub NoBurstBefore : ℕ → List (List Missile) → Type 0
NoBurstBefore update slots = All (All (λ m. update ≤ m.burst)) slots
