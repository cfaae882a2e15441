-- Which robots and cycles of a match have rows.
use Rattle.std.specs.Prelude.{ℕ, Bool, true, ◌&&◌, nat_eq, nat_le, Option, None, Some}
use Rattle.tools.specs.declared.spans.Span.{Span}

-- the robot, or any if none is named
abbrev pub is_of_robot : Option ℕ → ℕ → Bool
is_of_robot None robot = true
is_of_robot (Some only) robot = nat_eq robot only

-- a span has a robot in a cycle
abbrev pub is_in_span : Span → (cycle robot : ℕ) → Bool
is_in_span span cycle robot = is_of_robot span.robot robot && nat_le span.from cycle && nat_le cycle span.to
