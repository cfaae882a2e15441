-- The random words of a match.
use Rattle.std.specs.Prelude.{ℕ, zero, suc}
use Rattle.rand_pcg.specs.Lcg.{Lcg, started, increment_of}
use Rattle.rand_pcg.specs.Pcg.{multiplier_64, pcg32}

-- the generator of a seed and a match's number, after n words
unfoldable pub generator : ℕ → ℕ → ℕ → Lcg
generator seed number zero = started 64 multiplier_64 seed (increment_of 64 number)
generator seed number (suc drawn) = (pcg32 (generator seed number drawn)).1

-- the word that it gives next
unfoldable pub random_word : ℕ → ℕ → ℕ → ℕ
random_word seed number drawn = (pcg32 (generator seed number drawn)).0
