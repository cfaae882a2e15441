-- What is known to be heard, each worked out.
use Rattle.std.proofs.Common.{refl}
use Rattle.arith.specs.Table.{sines}
use Rattle.arith.specs.Degree.{degree_of}
use Rattle.arith.specs.Circle.{sine_at, cosine_at}
use Rattle.arena.specs.Leg.{clamped, along, way_east, way_north, end_x, end_y, place_x, place_y, leg_anew, steered, approached, sped, travelled, is_outside, hits_wall, clamped_at_walls, tried, stopped_by_walls}
use Rattle.arena.specs.Field.{damage_of, is_alive, is_live_at, no_robot, robot_at}
use Rattle.arena.specs.Collisions.{leg_alone, attempted_move, moves, square, is_close, is_no_further, collides, others, collision_count}
use Rattle.arena.specs.Shots.{aimed_x, aimed_y, flight, shot, in_air, due_at, ring, bursts}
use Rattle.arena.specs.Moved.{put_back, leg_after, knock_damages, moved_robot, moved}
use Rattle.arena.specs.Outlook.{burst_of, collides_with, due, meets_wall, next_leg, own_bursts, taken_by}
use Rattle.arena.specs.Still.{moved_times}
use Rattle.arena.specs.Start.{robot_at_rest}
use Rattle.arena.specs.Placed.{placed}
use Rattle.arena.specs.Answer.{argument_at, fired, with_wanted, field_with_wanted, answer}
use Rattle.watching.specs.Heard.{asked_heard, look_heard, looks_heard, losses_heard, shot_heard}
use Rattle.watching.specs.KnownHeard.{KnownHeard}
use Rattle.watching.specs.Losses.{losses_of}

pub known : KnownHeard
unfolding losses_heard looks_heard look_heard asked_heard shot_heard losses_of collides_with meets_wall due own_bursts
    burst_of next_leg
    taken_by is_live_at
    answer fired field_with_wanted with_wanted argument_at degree_of clamped robot_at placed robot_at_rest is_alive
    damage_of no_robot shot aimed_x aimed_y flight in_air
    place_x place_y end_x end_y way_east way_north along leg_anew steered approached sped travelled is_outside hits_wall
    clamped_at_walls tried stopped_by_walls leg_alone attempted_move moves square is_close is_no_further collides others
    collision_count due_at ring bursts put_back leg_after knock_damages moved_robot moved moved_times cosine_at sine_at
    sines
known = record {
  a_shot = refl;
  a_refused_shot = refl;
  a_scan = refl;
  a_second_scan = refl;
  another_question = refl;
  the_start = refl;
  of_no_film = refl;
  nothing_happens = refl;
  a_burst = refl;
}
