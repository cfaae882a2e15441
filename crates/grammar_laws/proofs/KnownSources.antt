-- The known sources, worked out.
use Rattle.std.proofs.Common.{refl, ◌∷◌}
use Rattle.grammar.specs.declared.actions.Action.TheVariants.{BeginFunction}
use Rattle.grammar.specs.Intrinsics.{intrinsic_named, intrinsic_name}
use Rattle.grammar.specs.NameLimits.{most_nested}
use Rattle.grammar.specs.ProfileNumbers.{first_profile}
use Rattle.grammar.specs.KnownSources.{calls_begun, KnownBeginnings, KnownLimits, KnownMisfits, KnownNameFaults, KnownNeeds, KnownTrees}
use Rattle.grammar.proofs.Beginnings.{follows_begins}

pub trees : KnownTrees
unfolding most_nested intrinsic_named intrinsic_name first_profile
trees = assumption

pub misfits : KnownMisfits
unfolding most_nested intrinsic_named intrinsic_name first_profile
misfits = assumption

pub names : KnownNameFaults
unfolding most_nested intrinsic_named intrinsic_name first_profile
names = assumption

pub needs : KnownNeeds
unfolding most_nested intrinsic_named intrinsic_name first_profile
needs = assumption

pub limits : KnownLimits
unfolding most_nested intrinsic_named intrinsic_name first_profile
limits = record {
  deepest = refl;
  too_deep = refl;
  most_variables = refl;
  variables = refl;
  most_externals = refl;
  externals = refl;
  most_functions = refl;
  functions = refl;
  long = refl;
  too_long_by_one = refl;
  longest = refl;
  too_long = refl;
  too_long_before_misfit = refl;
  misfit_before_too_long = refl;
}

pub beginnings : KnownBeginnings
beginnings = assumption (follows_begins (BeginFunction 0 0 ∷ calls_begun 200) refl)
