-- The known outputs, worked out.
use Rattle.std.proofs.Common.{refl}
use Rattle.std.specs.Fmt.{digits}
use Rattle.tokens.specs.Tokens.{tokens, located_tokens}
use Rattle.tokens.specs.Punctuators.{punctuator_of}
use Rattle.tokens.specs.Keywords.{keyword_of}
use Rattle.grammar.specs.Compiled.{compiled}
use Rattle.grammar.specs.Intrinsics.{intrinsic_named, intrinsic_name}
use Rattle.grammar.specs.NameLimits.{most_nested}
use Rattle.grammar.specs.ProfileNumbers.{first_profile}
use Rattle.grammar.specs.DiagnosticTexts.{text_of}
use Rattle.listings.specs.Listing.{code_lines, externals_lines, function_lines, instr_line, name_line}
use Rattle.listings.specs.Spelling.{instr_text}
use Rattle.battles.specs.Battle.{is_survivor}
use Rattle.series.specs.Reports.{report}
use Rattle.series.specs.Totals.{totals}
use Rattle.series.specs.KnownOutputs.{KnownLines, KnownOutputs, KnownReports}

pub texts : KnownLines
unfolding digits
texts = record {
  name_in_folders = refl;
  name_alone = refl;
  name_of_a_folder = refl;
  one_digit = refl;
  whole_column = refl;
  past_the_column = refl;
  diagnostic = refl;
}

pub reports : KnownReports
unfolding digits report totals is_survivor
reports = record { single_file = refl; dead_and_alive = refl; scores = refl }

pub outputs : KnownOutputs
unfolding digits tokens located_tokens punctuator_of keyword_of first_profile most_nested intrinsic_named intrinsic_name
    compiled
    text_of instr_text name_line instr_line externals_lines function_lines code_lines
outputs = record { listed = refl; faulty = refl; mixed = refl }
