-- What is kept of a motion, and within which limits.
use Rattle.std.specs.Prelude.{◌<◌, ◌≤◌, unsigned_abs}
use Rattle.arena.specs.Rules.{most_speed}
use Rattle.arena.specs.Sums.{place_of, IsInField}
use Rattle.arena.specs.Arena.{Motion}
use Rattle.arena.specs.declared.motion.Motion.TheInside.{Inside}

-- the motion of what is kept: its place follows from the sums
abbrev pub motion_kept : Inside → Motion
motion_kept kept = record {
  east = kept.east;
  north = kept.north;
  x = place_of kept.east;
  y = place_of kept.north;
  step_east = kept.step_east;
  step_north = kept.step_north;
  heading = kept.heading;
  speed = kept.speed;
  wanted_heading = kept.wanted_heading;
  wanted_speed = kept.wanted_speed;
  steady = kept.steady;
}

-- what is kept of a motion
abbrev pub kept_of_motion : Motion → Inside
kept_of_motion motion_kept = record {
  east = motion_kept.east;
  north = motion_kept.north;
  step_east = motion_kept.step_east;
  step_north = motion_kept.step_north;
  heading = motion_kept.heading;
  speed = motion_kept.speed;
  wanted_heading = motion_kept.wanted_heading;
  wanted_speed = motion_kept.wanted_speed;
  steady = motion_kept.steady;
}

-- it leads to a place of the field, at a speed that a robot may have
pub record IsMotion (motion_kept : Motion) : Type 0 where
  pub east : IsInField motion_kept.east
  pub north : IsInField motion_kept.north
  pub step_east : unsigned_abs motion_kept.step_east ≤ 10000000
  pub step_north : unsigned_abs motion_kept.step_north ≤ 10000000
  pub heading : motion_kept.heading < 360
  pub wanted_heading : motion_kept.wanted_heading < 360
  pub speed : motion_kept.speed ≤ most_speed
  pub wanted_speed : motion_kept.wanted_speed ≤ most_speed
