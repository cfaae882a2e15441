-- The known fields, each worked out.
use Rattle.std.proofs.Common.{refl}
use Rattle.arith.specs.Table.{sines}
use Rattle.arith.specs.Degree.{degree_of}
use Rattle.arith.specs.Circle.{sine_at, cosine_at}
use Rattle.arith.specs.Root.{root_by_quarters, root_of}
use Rattle.arith.specs.Bearing.{projection_of, first_greatest, projections, bearing_of}
use Rattle.arena.specs.Leg.{clamped, along, way_east, way_north, end_x, end_y, place_x, place_y, leg_anew, steered, approached, sped, travelled, is_outside, hits_wall, clamped_at_walls, tried, stopped_by_walls}
use Rattle.arena.specs.Field.{damage_of, is_alive, no_robot, robot_at, metres_x, metres_y}
use Rattle.arena.specs.Collisions.{leg_alone, attempted_move, moves, square, is_close, is_no_further, collides, others, collision_count}
use Rattle.arena.specs.Shots.{aimed_x, aimed_y, flight, shot, in_air, due_at, ring, bursts}
use Rattle.arena.specs.Moved.{put_back, leg_after, knock_damages, moved_robot, moved}
use Rattle.arena.specs.Still.{moved_times}
use Rattle.arena.specs.Scan.{apart, east_to, north_to, in_arc, sees, range_of, nearest, scanned}
use Rattle.arena.specs.Random.{generator, random_word}
use Rattle.arena.specs.Start.{robot_at_rest, quadrant, drawn_place, drawn_robot, start}
use Rattle.arena.specs.Placed.{placed}
use Rattle.arena.specs.Answer.{argument_at, fired, with_wanted, field_with_wanted, random_limit, random_number, answer}
use Rattle.arena.specs.KnownFields.{KnownScans, KnownStarts, KnownDrives, KnownKnocks, KnownRings, KnownMissiles}

pub scans : KnownScans
unfolding answer scanned nearest sees in_arc east_to north_to apart range_of argument_at degree_of clamped robot_at
    others
    placed robot_at_rest is_alive damage_of no_robot metres_x metres_y place_x place_y end_x end_y way_east way_north
    along
    square root_of root_by_quarters bearing_of first_greatest projections projection_of cosine_at sine_at sines
scans = record {
  at_the_edge = refl;
  past_the_edge = refl;
  resolution_below_0 = refl;
  resolution_is_0 = refl;
  same_metre = refl;
  nearer_of_two = refl;
}

pub starts : KnownStarts
unfolding start drawn_robot drawn_place quadrant random_word generator robot_at_rest answer random_number random_limit
    argument_at clamped place_x place_y end_x end_y way_east way_north along cosine_at sine_at sines
starts = record {
  words = refl;
  quadrants = refl;
  stand = refl;
  next_word = refl;
  rand_of_0 = refl;
  rand_below_0 = refl;
  rand_of_0_takes_a_word = refl;
  rand_past_most = refl;
}

pub drives : KnownDrives
unfolding answer field_with_wanted with_wanted argument_at degree_of clamped robot_at placed robot_at_rest is_alive
    damage_of no_robot
    place_x place_y end_x end_y way_east way_north along leg_anew steered approached sped travelled is_outside hits_wall
    clamped_at_walls tried stopped_by_walls leg_alone attempted_move moves square is_close is_no_further collides others
    collision_count due_at ring bursts
    put_back leg_after knock_damages moved_robot moved moved_times cosine_at sine_at sines
drives = record {
  six_updates = (refl, refl, refl);
  brakes = (refl, refl, refl);
  turns = (refl, refl, refl);
  at_30 = (refl, refl, refl);
  at_20 = (refl, refl, refl);
  at_10 = (refl, refl, refl);
  stands = (refl, refl, refl);
}

pub knocks_ : KnownKnocks
unfolding answer field_with_wanted with_wanted argument_at degree_of clamped robot_at placed robot_at_rest is_alive
    damage_of no_robot
    place_x place_y metres_x end_x end_y way_east way_north along leg_anew steered approached sped travelled is_outside
    hits_wall clamped_at_walls tried stopped_by_walls leg_alone attempted_move moves square is_close is_no_further
    collides others collision_count due_at
    ring bursts put_back leg_after knock_damages moved_robot moved moved_times cosine_at sine_at sines
knocks_ = record {
  both_hurt = refl;
  both_back = refl;
  both_stop = refl;
  wall_hurts = refl;
  wall_holds = refl;
  wall_stops = refl;
  last_metre = refl;
  all_three = refl;
  three_stay = refl;
  corner_hurts_once = refl;
  corner_holds = refl;
  wall_and_robot_hurt = refl;
  neither_moves = refl;
  driving_away_is_free = refl;
  drives_on = refl;
  same_distance_hurts = refl;
  none_passes = refl;
  standing_is_free = refl;
  turned_and_put_back = refl;
  keeps_its_heading = refl;
}

pub rings : KnownRings
unfolding answer fired shot aimed_x aimed_y flight in_air argument_at degree_of clamped robot_at placed robot_at_rest
    is_alive
    damage_of no_robot place_x place_y end_x end_y way_east way_north along leg_anew steered approached sped travelled
    is_outside hits_wall clamped_at_walls tried stopped_by_walls leg_alone attempted_move moves square is_close
    is_no_further collides others collision_count
    due_at ring bursts put_back leg_after knock_damages moved_robot moved moved_times cosine_at sine_at sines
rings = record {
  at_5_metres = refl;
  at_5_metres_aslant = refl;
  past_5_metres = refl;
  past_5_metres_aslant = refl;
  at_20_metres = refl;
  past_20_metres = refl;
  at_40_metres = refl;
  past_40_metres = refl;
}

pub missiles : KnownMissiles
unfolding answer scanned nearest sees in_arc east_to north_to apart range_of metres_x metres_y root_of root_by_quarters
    bearing_of first_greatest projections projection_of fired shot aimed_x aimed_y flight in_air argument_at degree_of
    clamped
    robot_at placed robot_at_rest is_alive damage_of no_robot place_x place_y end_x end_y way_east way_north along
    leg_anew
    steered approached sped travelled is_outside hits_wall clamped_at_walls tried stopped_by_walls leg_alone
    attempted_move moves square is_close
    is_no_further collides others collision_count due_at ring bursts put_back leg_after knock_damages moved_robot moved
    moved_times
    cosine_at sine_at sines
missiles = record {
  first = refl;
  second = refl;
  third = refl;
  both_in_air = refl;
  both_burst = refl;
  range_has_a_limit = refl;
  point_is_inside = refl;
  shooter_is_hurt = refl;
  shooter_dies = refl;
  missile_of_the_dead = refl;
  weak_is_seen = refl;
  dead_is_not_seen = refl;
}
