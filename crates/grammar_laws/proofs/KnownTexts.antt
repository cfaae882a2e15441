-- The known texts, worked out.
use Rattle.tokens.specs.Punctuators.{punctuator_of}
use Rattle.tokens.specs.Tokens.{located_tokens, tokens}
use Rattle.tokens.specs.Keywords.{keyword_of}
use Rattle.grammar.specs.Compiled.{compiled}
use Rattle.grammar.specs.Intrinsics.{intrinsic_named, intrinsic_name}
use Rattle.grammar_laws.specs.KnownTexts.{KnownTexts}
use Rattle.grammar.specs.NameLimits.{most_nested}
use Rattle.grammar.specs.Need.{built, need}
use Rattle.grammar.specs.ProfileNumbers.{first_profile}

pub texts : KnownTexts
unfolding compiled need built tokens located_tokens punctuator_of keyword_of most_nested intrinsic_named intrinsic_name
    first_profile
texts = assumption
