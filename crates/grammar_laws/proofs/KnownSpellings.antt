-- The known spellings, worked out.
use Rattle.grammar.specs.Intrinsics.{intrinsic_named, intrinsic_name}
use Rattle.grammar_laws.specs.KnownSpellings.{KnownSpellings}

pub spellings : KnownSpellings
unfolding intrinsic_named intrinsic_name
spellings = assumption
