-- The positions of the instructions of known sources, worked out.
use Rattle.std.proofs.Common.{refl, []}
use Rattle.tokens.specs.Keywords.{keyword_of}
use Rattle.tokens.specs.Punctuators.{punctuator_of}
use Rattle.tokens.specs.Tokens.{located_tokens, tokens}
use Rattle.grammar.specs.Compiled.{enough_steps}
use Rattle.grammar.specs.Intrinsics.{intrinsic_named, intrinsic_name}
use Rattle.grammar.specs.KnownSources.{in_main, on_lines}
use Rattle.grammar.specs.ProfileNumbers.{first_profile, second_profile}
use Rattle.grammar_laws.specs.KnownEmissions.{loop}
use Rattle.derivations.specs.KnownPositions.{KnownPositions, branches, two_lines}

pub positions_known : KnownPositions
unfolding intrinsic_named intrinsic_name first_profile second_profile tokens located_tokens keyword_of
    punctuator_of
positions_known = record {
  loop_lines = record { steps = enough_steps (on_lines loop); all = refl; made = refl };
  loop_short = record { steps = enough_steps (on_lines loop); all = refl; made = refl };
  branch_lines = record { steps = enough_steps (in_main branches); all = refl; made = refl };
  nothing = record { steps = enough_steps (on_lines []); all = refl; made = refl };
  columns = record { steps = enough_steps (tokens two_lines); all = refl; made = refl };
}
