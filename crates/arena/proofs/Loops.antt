-- Steps of the loops over the robots.
use Rattle.std.proofs.Common.{◌≡◌, ℕ, ◌+◌, ◌<◌, List, [], ◌∷◌, ◌++◌, length, take, map, get_or, refl, sym, ap, ◌∙◌, arith}
use Rattle.std.specs.List.{range_with_len}
use Rattle.std.proofs.lemmas.List.{map_more, get_or-map, length-map}
use Rattle.std.proofs.lemmas.Simd.{map-map}
use Rattle.arena.specs.Field.{Field, no_robot, robot_at}
use Rattle.arena.specs.Collisions.{attempted_move, collision_count}
use Rattle.arena.specs.Moved.{moved_robot, moved}
use Rattle.arena.specs.Arena.{Robot, robot_of}

-- an element of a mapped list
pub mapped_is : {X Y : Type 0} (f : X → Y) (ys : List Y) (xs : List X) (i : ℕ) (y : Y) (d : X) → ys ≡ map f xs →
    i < length ys → y ≡ get_or ys i y → y ≡ f (get_or xs i d)
mapped_is f ys xs i y d e inside at =
    let size : length ys ≡ length xs = ap length e ∙ length-map xs f in
    let within : i < length xs = omega (arith, size) in
    at ∙ ap (λ l. get_or l i y) e ∙ get_or-map f xs i d y within

-- a loop that pushes what it makes of each element
pub pushed_map : {X Y Z : Type 0} (f : X → Y) (g : X → Z) (ys : List Y) (xs : List X) (out more : List Z) (i : ℕ)
    (y : Y) (z : Z) (d : X) →
    ys ≡ map f xs → i < length ys → y ≡ get_or ys i y → (y ≡ f (get_or xs i d) → z ≡ g (get_or xs i d)) →
    out ≡ map g (take i xs) → more ≡ out ++ z ∷ [] →
    more ≡ map g (take (i + 1) xs)
pushed_map f g ys xs out more i y z d e inside at made so_far m =
    let size : length ys ≡ length xs = ap length e ∙ length-map xs f in
    let within : i < length xs = omega (arith, size) in
    let is = made (mapped_is f ys xs i y d e inside at) in
    m ∙ ap (λ l. l ++ z ∷ []) so_far ∙ ap (λ x. map g (take i xs) ++ x ∷ []) is ∙ sym (map_more g xs i d within)

-- a robot after the update, from its number
abbrev pub after_at : Field → ℕ → Robot
after_at f i =
    robot_of (moved_robot (f.updates + 1) f.shots (collision_count (map attempted_move f.robots) i) (robot_at f i))

pub after_all : (f : Field) → map (after_at f) (range_with_len 0 (length f.robots)) ≡ map robot_of (moved f).robots
unfolding moved
after_all f =
    sym
    (map-map robot_of
    (λ i. moved_robot (f.updates + 1) f.shots (collision_count (map attempted_move f.robots) i) (robot_at f i))
    (range_with_len 0 (length f.robots)))

pub at_is : (f : Field) (i update touched : ℕ) → update ≡ f.updates + 1 →
    touched ≡ collision_count (map attempted_move f.robots) i →
    robot_of (moved_robot update f.shots touched (get_or f.robots i no_robot)) ≡ after_at f i
unfolding robot_at
at_is f i update touched u t = rw (u, t) refl
