-- What the field answers to a robot that calls an intrinsic function, and what that changes.
use Rattle.std.specs.Prelude.{ℕ, ◌+◌, ◌%◌, max, nat_lt, if◌then◌else◌, List, [], ◌∷◌, ◌++◌, length, ℤ, pos, slice_index_or, slice_set}
use Rattle.grammar.specs.declared.resolved_names.Intrinsic.{Intrinsic}
use Rattle.grammar.specs.declared.resolved_names.Intrinsic.TheVariants.{Scan, Cannon, Drive, Damage, Speed, LocX, LocY, Rand, Sqrt, Sin, Cos, Tan, Atan}
use Rattle.arith.specs.Degree.{degree_of}
use Rattle.arith.specs.Circle.{sine_of, cosine_of}
use Rattle.arith.specs.Tangent.{tangent_of}
use Rattle.arith.specs.Arctangent.{arctangent_of}
use Rattle.arith.specs.Root.{root_of}
use Rattle.arena.specs.Rules.{most_missiles, most_random_limit, most_range, most_resolution, most_speed}
use Rattle.arena.specs.Leg.{Leg, clamped}
use Rattle.arena.specs.Field.{Field, damage_of, robot_at, metres_x, metres_y}
use Rattle.arena.specs.Shots.{shot, in_air}
use Rattle.arena.specs.Scan.{scanned}
use Rattle.arena.specs.Random.{random_word}

-- an argument by its number; a missing one is 0
unfoldable pub argument_at : List ℤ → ℕ → ℤ
argument_at arguments k = slice_index_or arguments k (pos 0)

unfoldable pub with_wanted : Leg → ℕ → ℕ → Leg
with_wanted leg degree speed = record leg { wanted_heading = degree; wanted_speed = speed }

-- a random number is below its limit, which is 1 at least
unfoldable pub random_limit : ℤ → ℕ
random_limit n = max 1 (clamped most_random_limit n)

unfoldable pub random_number : Field → ℤ → ℕ
random_number field n = random_word field.seed field.match_number field.drawn % random_limit n

module _ (field : Field) (i : ℕ) where
  -- a robot fires if fewer of its own missiles are in the air than may be
  unfoldable pub fired : ℕ → ℕ → ℤ × Field
  fired degree range =
      if nat_lt (length (in_air field.updates i field.shots)) most_missiles then
      (pos 1, record field { shots = field.shots ++ shot field.updates i (robot_at field i).leg degree range ∷ [] })
      else (pos 0, field)

  unfoldable pub field_with_wanted : ℕ → ℕ → Field
  field_with_wanted degree speed =
      let robot = robot_at field i in
      record field { robots = slice_set field.robots i (record robot { leg = with_wanted robot.leg degree speed }) }

  -- the reply, and the field afterwards
  unfoldable pub answer : Intrinsic → List ℤ → ℤ × Field
  answer Scan a =
      (pos (scanned field i (degree_of (argument_at a 0)) (clamped most_resolution (argument_at a 1))), field)
  answer Cannon a = fired (degree_of (argument_at a 0)) (clamped most_range (argument_at a 1))
  answer Drive a = (pos 1, field_with_wanted (degree_of (argument_at a 0)) (clamped most_speed (argument_at a 1)))
  answer Damage a = (pos (damage_of (robot_at field i)), field)
  answer Speed a = (pos (robot_at field i).leg.speed, field)
  answer LocX a = (pos (metres_x (robot_at field i)), field)
  answer LocY a = (pos (metres_y (robot_at field i)), field)
  answer Rand a = (pos (random_number field (argument_at a 0)), record field { drawn = field.drawn + 1 })
  answer Sqrt a = (root_of (argument_at a 0), field)
  answer Sin a = (sine_of (argument_at a 0), field)
  answer Cos a = (cosine_of (argument_at a 0), field)
  answer Tan a = (tangent_of (argument_at a 0), field)
  answer Atan a = (arctangent_of (argument_at a 0), field)
