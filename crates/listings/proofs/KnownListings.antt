-- The known listings, worked out.
use Rattle.std.proofs.Common.{refl}
use Rattle.std.specs.Fmt.{digits}
use Rattle.grammar.specs.Intrinsics.{intrinsic_name}
use Rattle.grammar.specs.ProfileNumbers.{first_profile, second_profile}
use Rattle.listings.specs.KnownListings.{KnownListings}
use Rattle.listings.specs.Listing.{code_lines, externals_lines, function_lines, instr_line, name_line}
use Rattle.listings.specs.Spelling.{callee_text, instr_text, variable_text}

pub listings : KnownListings
unfolding first_profile second_profile digits intrinsic_name variable_text callee_text instr_text name_line instr_line
    externals_lines function_lines code_lines
listings = record {
  nothing = refl;
  sum = refl;
  sum_of_postfix = refl;
  distance = refl;
  nearest_else = refl;
  late_read = refl;
  asking = refl;
  defined_behind = refl;
  left_out = refl;
  decided = refl;
  truth = refl;
  both_sides = refl;
}
