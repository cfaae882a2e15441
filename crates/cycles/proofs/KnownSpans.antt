-- The known spans, worked out.
use Rattle.std.proofs.Common.{refl}
use Rattle.grammar.specs.ProfileNumbers.{first_profile, second_profile}
use Rattle.cycles.specs.KnownSpans.{KnownQuestions, KnownRuns, KnownTurns}

pub runs : KnownRuns
unfolding first_profile second_profile
runs = record {
  callee = record { first = refl; second = refl };
  caller = record { first = refl; second = refl };
  loop = record { first = refl; second = refl };
  one_branch = record { first = refl; second = refl };
  two_branches = record { first = refl; second = refl };
  both_sides_of_and = refl;
  both_sides_of_or = refl;
  one_side_of_and = refl;
  one_side_of_or = refl;
  calls_itself = record { first = refl; second = refl };
  calls_what_calls_itself = record { first = refl; second = refl };
  begins_winding = record { first = refl; second = refl };
  winds = record { first = refl; second = refl };
  winds_back = record { first = refl; second = refl };
  early_return = record { first = refl; second = refl };
  return_from_loop = record { first = refl; second = refl };
  idle_loop = record { first = refl; second = refl };
  loop_of_no_turn = record { first = refl; second = refl };
}

pub turns : KnownTurns
unfolding first_profile second_profile
turns = record {
  shots = record { first = refl; second = refl };
  questions = record { first = refl; second = refl };
  return = record { first = refl; second = refl };
  nothing = record { first = refl; second = refl };
}

pub questions : KnownQuestions
unfolding first_profile second_profile
questions = record {
  of_callee = record { first = refl; second = refl };
  of_its_kind = record { first = refl; second = refl };
  of_other_kind = record { first = refl; second = refl };
  of_both_sides = refl;
  of_one_side = refl;
  of_turn = record { first = refl; second = refl };
  of_loop = record { first = refl; second = refl };
  of_idle_loop = record { first = refl; second = refl };
  of_loop_that_asks_others = record { first = refl; second = refl };
  of_return_from_loop = record { first = refl; second = refl };
  of_branch = record { first = refl; second = refl };
}
