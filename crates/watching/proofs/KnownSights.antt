-- The known sights, each worked out.
use Rattle.std.proofs.Common.{refl}
use Rattle.arith.specs.Table.{sines}
use Rattle.arith.specs.Degree.{degree_of}
use Rattle.arith.specs.Circle.{sine_at, cosine_at}
use Rattle.arena.specs.Leg.{clamped, along, way_east, way_north, end_x, end_y, place_x, place_y, leg_anew, steered, approached, sped, travelled, is_outside, hits_wall, clamped_at_walls, tried, stopped_by_walls}
use Rattle.arena.specs.Field.{damage_of, is_alive, is_live_at, no_robot, robot_at}
use Rattle.arena.specs.Collisions.{leg_alone, attempted_move, moves, square, is_close, is_no_further, collides, others, collision_count}
use Rattle.arena.specs.Shots.{aimed_x, aimed_y, flight, shot, in_air, due_at, ring, bursts}
use Rattle.arena.specs.Moved.{put_back, leg_after, knock_damages, moved_robot, moved}
use Rattle.arena.specs.Still.{moved_times}
use Rattle.arena.specs.Start.{robot_at_rest}
use Rattle.arena.specs.Placed.{placed}
use Rattle.arena.specs.Answer.{argument_at, fired, with_wanted, field_with_wanted, answer}
use Rattle.battles.specs.Battle.{after_want, behaviour_at, cycle, is_due, robot_turn, state_after, turn, turns, updated}
use Rattle.watching.specs.Sights.{cycle_sights, sights_of, turn_sights, turns_sights, update_sights}
use Rattle.watching.specs.KnownSights.{KnownSights}

pub known : KnownSights
unfolding sights_of cycle_sights turns_sights turn_sights update_sights
    after_want behaviour_at cycle is_due robot_turn state_after turn turns updated is_live_at
    answer fired field_with_wanted with_wanted argument_at degree_of clamped robot_at placed robot_at_rest is_alive
    damage_of no_robot shot aimed_x aimed_y flight in_air
    place_x place_y end_x end_y way_east way_north along leg_anew steered approached sped travelled is_outside hits_wall
    clamped_at_walls tried stopped_by_walls leg_alone attempted_move moves square is_close is_no_further collides others
    collision_count due_at ring bursts put_back leg_after knock_damages moved_robot moved moved_times cosine_at sine_at
    sines
known = record {
  none = refl;
  two_cycles = refl;
  restart = refl;
  update = refl;
  no_update = refl;
  the_dead = refl;
}
