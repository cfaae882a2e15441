-- The robots at the start of a match.
use Rattle.std.proofs.Common.{◌≡◌, ℕ, ◌+◌, ◌*◌, ◌/◌, ◌%◌, List, [], ◌∷◌, ◌++◌, map, refl, sym, ap, ◌∙◌, arith}
use Rattle.std.specs.List.{range_with_len}
use Rattle.std.proofs.lemmas.List.{map_push}
use Rattle.std.proofs.lemmas.List.FromFn.{map-range_with_len_more}
use Rattle.arena.specs.Random.{random_word}
use Rattle.arena.specs.Start.{robot_at_rest, quadrant, drawn_place, drawn_robot}
use Rattle.arena.specs.Arena.{Robot, robot_of}

-- the robot of a number, by the words that it draws
pub robot_is : (seed number i first : ℕ) → first ≡ random_word seed number 0 →
    robot_of
    (robot_at_rest (drawn_place ((i + first % 4) % 4 % 2) (random_word seed number (1 + 2 * i)))
    (drawn_place ((i + first % 4) % 4 / 2) (random_word seed number (1 + 2 * i + 1))))
    ≡ robot_of (drawn_robot seed number i)
unfolding drawn_robot quadrant
robot_is seed number i first e =
    let next : 1 + 2 * i + 1 ≡ 2 + 2 * i = omega arith in
    rw (e, next) refl

pub drawn_more : (seed number i : ℕ) (out more : List Robot) (b : Robot) →
    out ≡ map robot_of (map (drawn_robot seed number) (range_with_len 0 i)) → b ≡ robot_of (drawn_robot seed number i) →
    more ≡ out ++ b ∷ [] →
    more ≡ map robot_of (map (drawn_robot seed number) (range_with_len 0 (i + 1)))
drawn_more seed number i out more b so_far is m =
    m ∙ ap (λ l. l ++ b ∷ []) so_far ∙
    ap (λ x. map robot_of (map (drawn_robot seed number) (range_with_len 0 i)) ++ x ∷ []) is ∙
    sym (map_push robot_of (map (drawn_robot seed number) (range_with_len 0 i)) (drawn_robot seed number i)) ∙
    ap (map robot_of) (sym (map-range_with_len_more (drawn_robot seed number) 0 i i (omega arith)))
