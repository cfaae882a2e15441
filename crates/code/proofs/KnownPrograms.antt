-- The known programs, worked out.
use Rattle.std.proofs.Common.{refl}
use Rattle.std.specs.Int.{int_wrap}
use Rattle.arith.specs.Op.{value_of}
use Rattle.grammar.specs.ProfileNumbers.{first_profile, second_profile}
use Rattle.code.specs.KnownPrograms.{KnownChoices, KnownRestarts, KnownValues, KnownWants}
use Rattle.code.specs.Values.{stored}

pub wants : KnownWants
unfolding first_profile second_profile value_of int_wrap stored
wants = record {
  asked = record { source = refl; instructions = refl };
  returned = record { source = refl; instructions = refl };
  shot_late = record { source = refl; instructions = refl };
  first_shot = record { source = refl; instructions = refl };
  quiet_after = record { source = refl; instructions = refl };
  third_shot = record { source = refl; instructions = refl };
  both_sides_of_and = record { source = refl; instructions = refl };
  both_sides_of_or = record { source = refl; instructions = refl };
  end_of_main = record { source = refl; instructions = refl };
}

pub restarts : KnownRestarts
unfolding first_profile second_profile value_of int_wrap stored
restarts = record {
  return_in_main = record { source = refl; instructions = refl };
  return_in_loops = record { source = refl; instructions = refl };
  main_calls_itself = record { source = refl; instructions = refl };
  f_calls_itself = record { source = refl; instructions = refl };
  fifty_locals = record { source = refl; instructions = refl };
  fifty_locals_and_damage = record { source = refl; instructions = refl };
  f_calls_itself_in_more_frames = record { source = refl; instructions = refl };
  fifty_locals_on_more_words = record { source = refl; instructions = refl };
}

pub choices : KnownChoices
unfolding first_profile second_profile value_of int_wrap stored
choices = record {
  and_is_decided = record { source = refl; instructions = refl };
  end_after_decided_and = record { source = refl; instructions = refl };
  and_goes_on = record { source = refl; instructions = refl };
  or_goes_on = record { source = refl; instructions = refl };
  or_is_decided = record { source = refl; instructions = refl };
  end_after_decided_or = record { source = refl; instructions = refl };
  truth_is_one = record { source = refl; instructions = refl };
  decided_or_is_one = record { source = refl; instructions = refl };
  right_side_of_or_is_one = record { source = refl; instructions = refl };
  right_side_of_and_is_one = record { source = refl; instructions = refl };
  decided_and_is_zero = record { source = refl; instructions = refl };
}

pub values : KnownValues
unfolding first_profile second_profile value_of int_wrap stored
values = record {
  surplus_argument = record { source = refl; instructions = refl };
  missing_argument = record { source = refl; instructions = refl };
  unused_argument = record { source = refl; instructions = refl };
  one_argument_of_two = record { source = refl; instructions = refl };
  no_argument = record { source = refl; instructions = refl };
  arguments_in_order = record { source = refl; instructions = refl };
  assignment_of_assignment = record { source = refl; instructions = refl };
  sides_in_order = record { source = refl; instructions = refl };
  set = record { source = refl; instructions = refl };
  add = record { source = refl; instructions = refl };
  subtract = record { source = refl; instructions = refl };
  multiply = record { source = refl; instructions = refl };
  divide = record { source = refl; instructions = refl };
  remainder = record { source = refl; instructions = refl };
  shift_left = record { source = refl; instructions = refl };
  shift_right = record { source = refl; instructions = refl };
  bit_and = record { source = refl; instructions = refl };
  bit_xor = record { source = refl; instructions = refl };
  bit_or = record { source = refl; instructions = refl };
}
