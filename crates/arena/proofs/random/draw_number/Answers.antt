-- What is left of the word is below the limit, so it fits.
use Rattle.std.proofs.Common.{◌%◌, pos, ap, ◌∙◌, arith}
use Rattle.std.specs.Int.{w32}
use Rattle.std.proofs.lemmas.Int.{to_z_pos, to_z-of_z}
use Rattle.arena.specs.Random.{random_word}
use Rattle.arena.specs.Answer.{random_number}
use Rattle.arena.proofs.random.draw_number.Goals as goal

pub returns-clause-value : goal.returns-clause-value
unfolding random_number
returns-clause-value c = λ field e.
    let drawn = c.draw_word-word.ensures.word field.seed field.match_number field.drawn e in
    let limit = rw (to_z-of_z w32 c.args.limit c.ranges.limit) at c.random_limit.ensures.value in
    to_z_pos w32 (c.draw_word-word.result % c.random_limit.result) (omega arith) ∙
    ap (λ n. pos (n % c.random_limit.result)) drawn
    ∙ ap (λ n. pos (random_word field.seed field.match_number field.drawn % n)) limit
