-- Which fields an arena represents.
use Rattle.std.specs.Prelude.{◌≡◌, ℕ, ◌<◌, ℤ, true, List, [], map, length, All, slice_index_or}
use Rattle.grammar.specs.declared.resolved_names.Intrinsic.{Intrinsic}
use Rattle.arena.specs.Answer.{answer}
use Rattle.arena.specs.Field.{Shot, Field}
use Rattle.arena.specs.Shots.{in_air}
use Rattle.arena.specs.Random.{generator}
use Rattle.arena.specs.Arena.{Missile, Arena, robot_of, shot_of, is_live}

-- each robot's missiles are its shots in the air, and every shot is of one of the robots
pub record HoldsShots (updates : ℕ) (slots : List (List Missile)) (shots : List Shot) : Type 0 where
  pub owned : All (λ s. s.owner < length slots) shots
  pub in_air : (i : ℕ) → i < length slots → map (shot_of i) (slice_index_or slots i []) ≡ in_air updates i shots

pub record RepresentsField (g : Arena) (field : Field) : Type 0 where
  pub updates : g.updates ≡ field.updates
  pub robots : g.robots ≡ map robot_of field.robots
  pub missiles : HoldsShots field.updates g.slots field.shots
  pub random : g.random ≡ generator field.seed field.match_number field.drawn

-- A live robot called an intrinsic function: the arena gave the reply of any field that it represented before, and
-- represents what is then of that field. No update was done, and the robots are as many, this one alive.
pub record Answers (before after : Arena) (robot : ℕ) (intrinsic : Intrinsic) (arguments : List ℤ) (given : ℤ) : Type 0
  where
    pub reply : (f : Field) → RepresentsField before f → given ≡ (answer f robot intrinsic arguments).0
    pub stands : (f : Field) → RepresentsField before f → RepresentsField after (answer f robot intrinsic arguments).1
    pub updates : after.updates ≡ before.updates
    pub manned : length after.robots ≡ length before.robots
    pub alive : is_live after robot ≡ true
