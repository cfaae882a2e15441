-- The known needs, worked out.
use Rattle.std.proofs.Common.{refl}
use Rattle.grammar.specs.ProfileNumbers.{first_profile, second_profile}
use Rattle.room.specs.KnownNeeds.{KnownNeeds}

pub needs : KnownNeeds
unfolding first_profile second_profile
needs = record {
  empty = record { first = refl; second = refl };
  variables = record { first = refl; second = refl };
  operators = record { first = refl; second = refl };
  turns = record { first = refl; second = refl };
  question = record { first = refl; second = refl };
  call = record { first = refl; second = refl };
  argument = record { first = refl; second = refl };
  callee_behind = record { first = refl; second = refl };
  itself = record { first = refl; second = refl };
  each_other = record { first = refl; second = refl };
  apart = record { first = refl; second = refl };
  returned = record { first = refl; second = refl };
  branches = record { first = refl; second = refl };
}
