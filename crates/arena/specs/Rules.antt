-- The rules of the field in numbers. Places and distances are in tenths of a metre, headings in degrees, speeds and
-- damage in percent, if nothing else is said.
use Rattle.std.specs.Prelude.{ℕ}

-- both axes of the field go from 0 to here
abbrev pub last_place : ℕ
last_place = 9999

-- the first place of the low and of the high half of an axis in which robots start, and how many places each has
abbrev pub first_low_start : ℕ
first_low_start = 1000

abbrev pub first_high_start : ℕ
first_high_start = 6000

abbrev pub start_places : ℕ
start_places = 3000

-- the greatest speed, the greatest at which a robot turns, and by how much the speed changes in an update
abbrev pub most_speed : ℕ
most_speed = 100

abbrev pub turning_speed : ℕ
turning_speed = 50

abbrev pub acceleration : ℕ
acceleration = 10

-- robots collide if they are nearer than this on both axes
abbrev pub near : ℕ
near = 10

-- the damage that makes a robot dead, that of a wall, and that of a collision
abbrev pub deadly : ℕ
deadly = 100

abbrev pub wall_damage : ℕ
wall_damage = 2

abbrev pub knock_damage : ℕ
knock_damage = 2

-- the greatest resolution of a scan, in degrees to either side
abbrev pub most_resolution : ℕ
most_resolution = 10

-- the greatest range of a shot, in metres; how far a missile flies in an update, in metres; and how many missiles of a
-- robot may be in the air at once
abbrev pub most_range : ℕ
most_range = 700

abbrev pub missile_speed : ℕ
missile_speed = 50

abbrev pub most_missiles : ℕ
most_missiles = 2

-- how far the three rings of a burst reach, and the damage in each
abbrev pub inner_ring : ℕ
inner_ring = 50

abbrev pub inner_ring_damage : ℕ
inner_ring_damage = 10

abbrev pub middle_ring : ℕ
middle_ring = 200

abbrev pub middle_ring_damage : ℕ
middle_ring_damage = 5

abbrev pub last_ring : ℕ
last_ring = 400

abbrev pub last_ring_damage : ℕ
last_ring_damage = 3

-- the greatest limit of a random number
abbrev pub most_random_limit : ℕ
most_random_limit = 32767
