-- The known battles, worked out.
use Rattle.std.proofs.Common.{refl, arith, [], ◌∷◌}
use Rattle.arena.specs.Leg.{clamped, along, way_east, way_north, end_x, end_y, place_x, place_y, leg_anew, steered, approached, sped, travelled, is_outside, hits_wall, clamped_at_walls, tried, stopped_by_walls}
use Rattle.arena.specs.Field.{damage_of, is_alive, no_robot, robot_at, is_live_at, live_count, metres_x, metres_y}
use Rattle.arena.specs.Collisions.{leg_alone, attempted_move, moves, square, is_close, is_no_further, collides, others, collision_count}
use Rattle.arena.specs.Shots.{aimed_x, aimed_y, flight, shot, in_air, due_at, ring, bursts}
use Rattle.arena.specs.Moved.{put_back, leg_after, knock_damages, moved_robot, moved}
use Rattle.arena.specs.Scan.{apart, east_to, north_to, in_arc, sees, range_of, nearest, scanned}
use Rattle.arena.specs.Random.{generator, random_word}
use Rattle.arena.specs.Start.{robot_at_rest, quadrant, drawn_place, drawn_robot, start}
use Rattle.arena.specs.Placed.{placed}
use Rattle.arena.specs.Answer.{argument_at, fired, with_wanted, field_with_wanted, random_limit, random_number, answer}
use Rattle.battles.specs.Battle.{after_want, robot_turn, behaviour_at, turn, turns, is_due, updated, cycle, is_over, state_after, first_passing, last_cycle, first_state, damages_of, battle, is_survivor}
use Rattle.arith.specs.Circle.{sine_at, cosine_at, sine_of, cosine_of}
use Rattle.arith.specs.Degree.{degree_of}
use Rattle.arith.specs.Table.{sines, tangents}
use Rattle.arith.specs.Op.{value_of}
use Rattle.std.specs.Int.{int_wrap}
use Rattle.code.specs.Values.{stored}
use Rattle.grammar.specs.NameLimits.{most_nested}
use Rattle.grammar.specs.ProfileNumbers.{first_profile, second_profile}
use Rattle.tokens.specs.Tokens.{tokens, located_tokens}
use Rattle.tokens.specs.Punctuators.{punctuator_of}
use Rattle.tokens.specs.Keywords.{keyword_of}
use Rattle.grammar.specs.Compiled.{compiled}
use Rattle.grammar.specs.Intrinsics.{intrinsic_named, intrinsic_name}
use Rattle.battles.specs.KnownBattles.{idle_file, KnownBattles, KnownShortBattles}
use Rattle.battles.specs.Pairing.{robots_of}
use Rattle.code.specs.KnownPrograms.{shooting_file}
use Rattle.series_tests.proofs.Limits.{longer}

pub battles : KnownBattles
unfolding clamped along way_east way_north end_x end_y place_x place_y leg_anew steered approached sped travelled
    is_outside
    hits_wall clamped_at_walls tried stopped_by_walls damage_of is_alive no_robot robot_at is_live_at live_count
    metres_x metres_y leg_alone
    attempted_move moves square is_close is_no_further collides others collision_count aimed_x aimed_y flight shot
    in_air due_at ring
    bursts put_back leg_after knock_damages moved_robot moved apart east_to north_to in_arc sees range_of nearest
    scanned
    generator random_word robot_at_rest quadrant drawn_place drawn_robot start placed argument_at fired with_wanted
    field_with_wanted
    random_limit random_number answer after_want robot_turn behaviour_at turn turns is_due updated cycle is_over
    state_after
    first_passing last_cycle first_state damages_of battle is_survivor sine_at cosine_at sine_of cosine_of degree_of
    sines tangents
    value_of int_wrap stored first_profile second_profile tokens located_tokens punctuator_of keyword_of most_nested
    intrinsic_named intrinsic_name compiled
battles = record {
  empty = record { compiles = refl; ends = refl };
  none_survives = record {
    compiles = refl;
    ends =
        longer (robots_of first_profile (shooting_file ∷ [])) 1 1 90 500000 90 (100 ∷ 100 ∷ []) refl refl
        (omega arith) (omega arith);
  };
  damages = refl;
  stopped_before = record { compiles = refl; ends = refl };
  one_survives = record {
    compiles = refl;
    ends =
        longer (robots_of first_profile (shooting_file ∷ idle_file ∷ [])) 1 1 90 500000 90 (100 ∷ 0 ∷ []) refl refl
        (omega arith) (omega arith);
  };
  one_of_three_survives = record {
    compiles = refl;
    ends =
        longer (robots_of first_profile (idle_file ∷ shooting_file ∷ shooting_file ∷ [])) 1 1 90 500000 90
        (0 ∷ 100 ∷ 100 ∷ []) refl refl (omega arith) (omega arith);
  };
  one_of_four_survives = record {
    compiles = refl;
    ends =
        longer (robots_of first_profile (shooting_file ∷ shooting_file ∷ idle_file ∷ shooting_file ∷ [])) 1 1 90
        500000 90 (100 ∷ 100 ∷ 0 ∷ 100 ∷ []) refl refl (omega arith) (omega arith);
  };
  two_draw_in_turn = record { compiles = refl; ends = refl };
  three_draw_in_turn = record { compiles = refl; ends = refl };
  both_sides = record { compiles = refl; ends = refl };
  late_read = record { compiles = refl; ends = refl };
  restart = record { compiles = refl; ends = refl };
}

pub short_battles : KnownShortBattles
unfolding clamped along way_east way_north end_x end_y place_x place_y leg_anew steered approached sped travelled
    is_outside
    hits_wall clamped_at_walls tried stopped_by_walls damage_of is_alive no_robot robot_at is_live_at live_count
    metres_x metres_y leg_alone
    attempted_move moves square is_close is_no_further collides others collision_count aimed_x aimed_y flight shot
    in_air due_at ring
    bursts put_back leg_after knock_damages moved_robot moved apart east_to north_to in_arc sees range_of nearest
    scanned
    generator random_word robot_at_rest quadrant drawn_place drawn_robot start placed argument_at fired with_wanted
    field_with_wanted
    random_limit random_number answer after_want robot_turn behaviour_at turn turns is_due updated cycle is_over
    state_after
    first_passing last_cycle first_state damages_of battle is_survivor sine_at cosine_at sine_of cosine_of degree_of
    sines tangents
    value_of int_wrap stored first_profile second_profile tokens located_tokens punctuator_of keyword_of most_nested
    intrinsic_named intrinsic_name compiled
short_battles = record {
  left_out = record { compiles = refl; ends = refl };
  taken = record { compiles = refl; ends = refl };
  decided = record { compiles = refl; ends = refl };
  truth = record { compiles = refl; ends = refl };
  none_survives = record {
    compiles = refl;
    ends =
        longer (robots_of second_profile (shooting_file ∷ [])) 1 1 90 500000 90 (100 ∷ 100 ∷ []) refl refl
        (omega arith) (omega arith);
  };
}
