-- Runs: the straight, even pieces of a robot's way.
use Rattle.std.specs.Prelude.{ℕ, pos, ◌-ℤ◌, unsigned_abs, Bool, true, false, not, nat_eq, nat_le, ◌&&◌, if◌then◌else◌, Option, None, Some}
use Rattle.arena.specs.Field.{FieldRobot, damage_of}
use Rattle.arena.specs.Leg.{place_x, place_y}
use Rattle.watching.specs.declared.runs.Stance.{Stance}
use Rattle.watching.specs.declared.runs.Displacement.{Displacement}
use Rattle.watching.specs.declared.runs.News.{News}
use Rattle.watching.specs.declared.runs.Run.{Run}

-- how a robot of a field is after the update of a cycle
abbrev pub stance_of : ℕ → FieldRobot → Stance
stance_of cycle robot = record {
  cycle = cycle;
  x = place_x robot.leg;
  y = place_y robot.leg;
  heading = robot.leg.heading;
  speed = robot.leg.speed;
  damage = damage_of robot;
}

-- all is the same but the cycle and the place
abbrev pub is_alike : Stance → Stance → Bool
is_alike a b = nat_eq a.heading b.heading && nat_eq a.speed b.speed && nat_eq a.damage b.damage

-- the way from one place to another
abbrev pub way_of : Stance → Stance → Displacement
way_of a b = record { east = pos b.x -ℤ pos a.x; north = pos b.y -ℤ pos a.y }

-- two ways differ by no more than what places are rounded by
abbrev pub is_even : Displacement → Displacement → Bool
is_even a b = nat_le (unsigned_abs (a.east -ℤ b.east)) 1 && nat_le (unsigned_abs (a.north -ℤ b.north)) 1

-- the same of what a run has so far: it may have no place yet, or no way
abbrev pub is_alike_to : Option Stance → Stance → Bool
is_alike_to None stance = false
is_alike_to (Some last) stance = is_alike last stance

abbrev pub is_even_to : Option Displacement → Displacement → Bool
is_even_to None way = true
is_even_to (Some before) way = is_even before way

-- whether a robot is on its run yet after the next update: it goes straight on, and is as it was
abbrev pub is_on_run_from : (last : Option Stance) → (way : Option Displacement) → Stance → Bool
is_on_run_from None way stance = false
is_on_run_from (Some last) way stance = is_alike last stance && is_even_to way (way_of last stance)

abbrev pub is_on_run : Run → Stance → Bool
is_on_run run stance = is_on_run_from run.last run.way stance

-- where a run ends so far, if a film doesn't have it yet
abbrev pub end_of : Run → Option Stance
end_of run = if run.is_told then None else run.last

-- what a film shows of a robot after an update: where the run before ended, and where it is if it isn't as it was
abbrev pub news_of : Run → Stance → News
news_of run stance = record {
  end = if is_on_run run stance then None else end_of run;
  begin = if is_alike_to run.last stance then None else Some stance;
}

-- the run of a robot after an update: its way is that of its first update
abbrev pub way_kept : Option Displacement → Displacement → Displacement
way_kept None way = way
way_kept (Some before) way = if is_even before way then before else way

abbrev pub way_after : Option Stance → Option Displacement → Stance → Option Displacement
way_after None way stance = None
way_after (Some last) way stance = if is_alike last stance then Some (way_kept way (way_of last stance)) else None

abbrev pub run_after : Run → Stance → Run
run_after run stance = record {
  last = Some stance;
  way = way_after run.last run.way stance;
  is_told = not (is_alike_to run.last stance);
}
