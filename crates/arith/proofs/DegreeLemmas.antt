-- A number is its degree and whole rounds.
use Rattle.std.proofs.Common.{◌/◌, ℤ, pos, negsuc, arith}
use Rattle.std.proofs.lemmas.Int.{ints}
use Rattle.arith.specs.Degree.{degree_of}
use Rattle.arith.specs.Rounds.{IsDegreeOf}

pub degree_of-IsDegreeOf : (n : ℤ) → IsDegreeOf n (degree_of n)
unfolding degree_of
degree_of-IsDegreeOf (pos n) =
    record { on_the_round = omega arith; whole_rounds = (pos (n / 360), omega (arith, ints)) }
degree_of-IsDegreeOf (negsuc n) =
    record { on_the_round = omega arith; whole_rounds = (negsuc (n / 360), omega (arith, ints)) }
