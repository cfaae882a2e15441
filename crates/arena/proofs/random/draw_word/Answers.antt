-- A word is one step of the generator.
use Rattle.std.proofs.Common.{ap, ◌∙◌, add-one, ℕ}
use Rattle.rand_pcg.specs.Lcg.{Lcg}
use Rattle.rand_pcg.specs.Pcg.{pcg32}
use Rattle.arena.specs.Random.{generator, random_word}
use Rattle.arena.proofs.random.draw_word.Goals as goal

pub returns-clause-word : goal.returns-clause-word
unfolding random_word
returns-clause-word c = λ seed number drawn e.
    ap (λ (p : ℕ × Lcg). p.0) c.next_word.ensures ∙ ap (λ g. (pcg32 g).0) e

pub returns-clause-next : goal.returns-clause-next
unfolding generator
returns-clause-next c = λ seed number drawn e.
    rw add-one (ap (λ (p : ℕ × Lcg). p.1) c.next_word.ensures ∙ ap (λ g. (pcg32 g).1) e)
