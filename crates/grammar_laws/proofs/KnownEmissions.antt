-- What the derivations of known sources emit, worked out.
use Rattle.grammar.specs.Intrinsics.{intrinsic_named, intrinsic_name}
use Rattle.grammar_laws.specs.KnownEmissions.{KnownEmissions}

pub emissions_known : KnownEmissions
unfolding intrinsic_named intrinsic_name
emissions_known = assumption
