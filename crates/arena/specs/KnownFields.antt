-- Fields that show the rules, worked out from the definitions by the prover.
use Rattle.std.specs.Prelude.{◌≡◌, ℕ, List, [], ◌∷◌, map, ℤ, pos, neg_ℤ}
use Rattle.grammar.specs.declared.resolved_names.Intrinsic.{Intrinsic}
use Rattle.grammar.specs.declared.resolved_names.Intrinsic.TheVariants.{Scan, Cannon, Drive, LocX, Rand}
use Rattle.arena.specs.Leg.{place_x, place_y}
use Rattle.arena.specs.Field.{FieldRobot, Field, damage_of, robot_at}
use Rattle.arena.specs.Random.{random_word}
use Rattle.arena.specs.Start.{quadrant, start}
use Rattle.arena.specs.Placed.{placed}
use Rattle.arena.specs.Still.{moved_times}
use Rattle.arena.specs.Answer.{answer}

-- a robot's call and its reply, and the field afterwards
abbrev pub reply : Field → ℕ → Intrinsic → ℤ → ℤ → ℤ
reply field i intrinsic a b = (answer field i intrinsic (a ∷ b ∷ [])).0

abbrev pub asked : Field → ℕ → Intrinsic → ℤ → ℤ → Field
asked field i intrinsic a b = (answer field i intrinsic (a ∷ b ∷ [])).1

abbrev pub places : Field → List (ℕ × ℕ)
places field = map (λ (robot : FieldRobot). (place_x robot.leg, place_y robot.leg)) field.robots

abbrev pub speeds : Field → List ℕ
speeds field = map (λ (robot : FieldRobot). robot.leg.speed) field.robots

abbrev pub damages : Field → List ℕ
damages field = map damage_of field.robots

-- two robots
abbrev pub two : ℕ → ℕ → ℕ → ℕ → Field
two x y other_x other_y = placed 1 1 ((pos x, pos y) ∷ (pos other_x, pos other_y) ∷ [])

-- two robots at 70 and 30 metres, both to the east
abbrev pub two_ahead : Field
two_ahead = placed 1 1 ((pos 5000, pos 5000) ∷ (pos 5700, pos 5000) ∷ (pos 5300, pos 5000) ∷ [])

pub record KnownScans : Type 0 where
  pub at_the_edge : reply (two 5000 5000 6000 4910) 0 Scan (pos 365) (pos 10) ≡ pos 100
  pub past_the_edge : reply (two 5000 5000 6000 5290) 0 Scan (pos 365) (pos 10) ≡ pos 0
  pub resolution_below_0 : reply (two 5000 5000 6000 4910) 0 Scan (pos 355) (neg_ℤ (pos 3)) ≡ pos 100
  pub resolution_is_0 : reply (two 5000 5000 6000 5290) 0 Scan (pos 355) (neg_ℤ (pos 3)) ≡ pos 0
  pub same_metre : reply (two 5000 5000 5009 5009) 0 Scan (pos 123) (pos 0) ≡ pos 1
  pub nearer_of_two : reply two_ahead 0 Scan (pos 0) (pos 10) ≡ pos 30

-- the start of a match, and the next word after it
abbrev pub match_54 : Field
match_54 = start 42 54 2

pub record KnownStarts : Type 0 where
  pub words : map (random_word 42 54) (0 ∷ 1 ∷ 2 ∷ 3 ∷ 4 ∷ 5 ∷ [])
      ≡ 0xa15c02b7 ∷ 0x7b47f409 ∷ 0xba1d3330 ∷ 0x83d2f293 ∷ 0xbfa4784b ∷ 0xcbed606e ∷ []
  pub quadrants : map (quadrant 42 54) (0 ∷ 1 ∷ []) ≡ 3 ∷ 0 ∷ []
  pub stand : places match_54 ≡ (8097, 6824) ∷ (1955, 1955) ∷ []
  pub next_word : reply match_54 0 Rand (pos 100) (pos 0) ≡ pos 66
  pub rand_of_0 : reply match_54 0 Rand (pos 0) (pos 0) ≡ pos 0
  pub rand_below_0 : reply match_54 0 Rand (neg_ℤ (pos 5)) (pos 0) ≡ pos 0
  pub rand_of_0_takes_a_word : (asked match_54 0 Rand (pos 0) (pos 0)).drawn ≡ 6
  pub rand_past_most : reply match_54 0 Rand (pos 32768) (pos 0) ≡ pos 30795

-- east for six updates, and then north
abbrev pub east : Field
east = moved_times 6 (asked (two 5000 5000 1000 1000) 0 Drive (pos 0) (pos 100))

abbrev pub north : Field
north = asked east 0 Drive (pos 90) (pos 100)

-- robot 0 is at this place with this speed
abbrev pub IsAt : Field → ℕ → ℕ → ℕ → Type 0
IsAt field x y speed =
    let leg = (robot_at field 0).leg in
    (place_x leg ≡ x) × (place_y leg ≡ y) × (leg.speed ≡ speed)

pub record KnownDrives : Type 0 where
  pub six_updates : IsAt east 5210 5000 60
  pub brakes : IsAt (moved_times 1 north) 5260 5000 50
  pub turns : IsAt (moved_times 2 north) 5260 5040 40
  pub at_30 : IsAt (moved_times 3 north) 5260 5070 30
  pub at_20 : IsAt (moved_times 4 north) 5260 5090 20
  pub at_10 : IsAt (moved_times 5 north) 5260 5100 10
  pub stands : IsAt (moved_times 6 north) 5260 5100 0

-- what a robot driving east runs into
abbrev pub pushed : Field
pushed = moved_times 1 (asked (two 5000 5000 5015 5000) 0 Drive (pos 0) (pos 100))

abbrev pub at_the_wall : Field
at_the_wall = moved_times 1 (asked (two 9995 5000 1000 1000) 0 Drive (pos 0) (pos 100))

abbrev pub row_of_three : Field
row_of_three = moved_times 1
    (asked (placed 1 1 ((pos 5000, pos 5000) ∷ (pos 5015, pos 5000) ∷ (pos 5018, pos 5000) ∷ [])) 0
    Drive (pos 0) (pos 100))

-- a corner, and a robot beside the wall
abbrev pub in_the_corner : Field
in_the_corner = moved_times 1 (asked (two 9995 9995 1000 1000) 0 Drive (pos 45) (pos 100))

abbrev pub wall_and_robot : Field
wall_and_robot = moved_times 1 (asked (two 9995 5000 9998 5000) 0 Drive (pos 0) (pos 100))

-- two robots less than a metre apart: one drives away, passes the other to the same distance, or both stand
abbrev pub drives_away : Field
drives_away = moved_times 1 (asked (two 5000 5000 5005 5000) 1 Drive (pos 0) (pos 3))

abbrev pub passes : Field
passes = moved_times 1 (asked (two 5000 5000 5004 5000) 0 Drive (pos 0) (pos 8))

abbrev pub both_stand : Field
both_stand = moved_times 1 (two 5000 5000 5004 5000)

-- a robot that turns north, into another
abbrev pub turns_into : Field
turns_into = moved_times 1 (asked (two 5000 5000 5000 5015) 0 Drive (pos 90) (pos 100))

pub record KnownKnocks : Type 0 where
  pub both_hurt : damages pushed ≡ 2 ∷ 2 ∷ []
  pub both_back : places pushed ≡ (5000, 5000) ∷ (5015, 5000) ∷ []
  pub both_stop : speeds pushed ≡ 0 ∷ 0 ∷ []
  pub wall_hurts : damages at_the_wall ≡ 2 ∷ 0 ∷ []
  pub wall_holds : places at_the_wall ≡ (9999, 5000) ∷ (1000, 1000) ∷ []
  pub wall_stops : speeds at_the_wall ≡ 0 ∷ 0 ∷ []
  pub last_metre : reply at_the_wall 0 LocX (pos 0) (pos 0) ≡ pos 999
  pub all_three : damages row_of_three ≡ 4 ∷ 2 ∷ 2 ∷ []
  pub three_stay : places row_of_three ≡ (5000, 5000) ∷ (5015, 5000) ∷ (5018, 5000) ∷ []
  pub corner_hurts_once : damages in_the_corner ≡ 2 ∷ 0 ∷ []
  pub corner_holds : places in_the_corner ≡ (9999, 9999) ∷ (1000, 1000) ∷ []
  pub wall_and_robot_hurt : damages wall_and_robot ≡ 4 ∷ 2 ∷ []
  pub neither_moves : places wall_and_robot ≡ (9995, 5000) ∷ (9998, 5000) ∷ []
  pub driving_away_is_free : damages drives_away ≡ 0 ∷ 0 ∷ []
  pub drives_on : places drives_away ≡ (5000, 5000) ∷ (5008, 5000) ∷ []
  pub same_distance_hurts : damages passes ≡ 2 ∷ 2 ∷ []
  pub none_passes : places passes ≡ (5000, 5000) ∷ (5004, 5000) ∷ []
  pub standing_is_free : damages both_stand ≡ 0 ∷ 0 ∷ []
  pub turned_and_put_back : places turns_into ≡ (5000, 5000) ∷ (5000, 5015) ∷ []
  pub keeps_its_heading : (robot_at turns_into 0).leg.heading ≡ 90

-- the damages when a missile bursts at (2000, 1000)
abbrev pub burst_near : ℕ → ℕ → List ℕ
burst_near x y = damages (moved_times 2 (asked (two 1000 1000 x y) 0 Cannon (pos 0) (pos 100)))

pub record KnownRings : Type 0 where
  pub at_5_metres : burst_near 2050 1000 ≡ 0 ∷ 10 ∷ []
  pub at_5_metres_aslant : burst_near 2030 1040 ≡ 0 ∷ 10 ∷ []
  pub past_5_metres : burst_near 2051 1000 ≡ 0 ∷ 5 ∷ []
  pub past_5_metres_aslant : burst_near 2036 1036 ≡ 0 ∷ 5 ∷ []
  pub at_20_metres : burst_near 2200 1000 ≡ 0 ∷ 5 ∷ []
  pub past_20_metres : burst_near 2201 1000 ≡ 0 ∷ 3 ∷ []
  pub at_40_metres : burst_near 2400 1000 ≡ 0 ∷ 3 ∷ []
  pub past_40_metres : burst_near 2401 1000 ≡ 0 ∷ 0 ∷ []

-- a robot that fires at 500 metres, twice, and then a third time after some updates
abbrev pub one_fired : Field
one_fired = asked (two 1000 1000 9000 9000) 0 Cannon (pos 0) (pos 500)

abbrev pub two_fired : Field
two_fired = asked one_fired 0 Cannon (pos 0) (pos 500)

abbrev pub third_after : ℕ → ℤ
third_after n = reply (moved_times n two_fired) 0 Cannon (pos 0) (pos 500)

-- a shot over the wall, and a robot that fires at its own feet
abbrev pub over_the_wall : Field
over_the_wall = asked (two 1000 1000 30 1000) 0 Cannon (pos 180) (pos 900)

abbrev pub fires : ℕ → ℕ → Field → Field
fires range next field =
    moved_times 1 (asked (asked field 0 Cannon (pos 0) (pos range)) 0 Cannon (pos 0) (pos next))

abbrev pub weak : Field
weak = fires 150 0 (fires 0 0 (fires 0 0 (fires 0 0 (fires 0 0 (two 1000 1000 2500 1000)))))

abbrev pub dead : Field
dead = moved_times 1 (asked weak 0 Cannon (pos 0) (pos 0))

pub record KnownMissiles : Type 0 where
  pub first : reply (two 1000 1000 9000 9000) 0 Cannon (pos 0) (pos 500) ≡ pos 1
  pub second : reply one_fired 0 Cannon (pos 0) (pos 500) ≡ pos 1
  pub third : third_after 0 ≡ pos 0
  pub both_in_air : third_after 9 ≡ pos 0
  pub both_burst : third_after 10 ≡ pos 1
  pub range_has_a_limit : damages (moved_times 13 over_the_wall) ≡ 0 ∷ 0 ∷ []
  pub point_is_inside : damages (moved_times 14 over_the_wall) ≡ 0 ∷ 10 ∷ []
  pub shooter_is_hurt : damages weak ≡ 90 ∷ 0 ∷ []
  pub shooter_dies : damages dead ≡ 100 ∷ 0 ∷ []
  pub missile_of_the_dead : damages (moved_times 1 dead) ≡ 100 ∷ 10 ∷ []
  pub weak_is_seen : reply weak 1 Scan (pos 180) (pos 0) ≡ pos 150
  pub dead_is_not_seen : reply dead 1 Scan (pos 180) (pos 0) ≡ pos 0
